-- Rows are added in any grouping. Assumes nothing.
use Rattle.std.proofs.Common.{add_assoc, add-zero, zero-add}
use Rattle.std.specs.Prelude.{◌≡◌}
use Rattle.std.proofs.Math.IntN.{+ℤ_assoc, +ℤ_idr, +ℤ_idl}
use Rattle.rules.specs.declared.audit.Row.{Row}
use Rattle.rules.specs.Audit.{none, plus}

pub plus_assoc : (a b c : Row) → plus (plus a b) c ≡ plus a (plus b c)
plus_assoc a b c = λ i. record {
  below = add_assoc a.below b.below c.below i;
  at = add_assoc a.at b.at c.at i;
  above = add_assoc a.above b.above c.above i;
  sum = +ℤ_assoc a.sum b.sum c.sum i;
  lost = add_assoc a.lost b.lost c.lost i;
  size = add_assoc a.size b.size c.size i;
}

pub plus_none : (a : Row) → plus a none ≡ a
plus_none a = λ i. record {
  below = add-zero a.below i;
  at = add-zero a.at i;
  above = add-zero a.above i;
  sum = +ℤ_idr a.sum i;
  lost = add-zero a.lost i;
  size = add-zero a.size i;
}

pub none_plus : (a : Row) → plus none a ≡ a
none_plus a = λ i. record {
  below = zero-add a.below i;
  at = zero-add a.at i;
  above = zero-add a.above i;
  sum = +ℤ_idl a.sum i;
  lost = zero-add a.lost i;
  size = zero-add a.size i;
}
