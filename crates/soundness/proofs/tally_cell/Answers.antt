-- `soundness::tally_cell` meets its contract. Each way out is one law of `Slots`.
-- Assumes nothing.
use mathlib.Core.Path.{sym, ◌∙◌}
use native.Mathlib.Omega.{arith}
use Rattle.laws.specs.Sound.Tally.{less_room}
use Rattle.soundness.proofs.Slots.{object_tallied, empty_tallied, fault_tallied}
use Rattle.soundness.proofs.tally_cell.Goals as goal

pub tally_all-requires : goal.tally_all-requires
tally_all-requires c = (less_room 8 _ (omega arith) c.requires.0, omega arith)

pub returns-then-kind-eq-OBJECT : goal.returns-then-kind-eq-OBJECT
returns-then-kind-eq-OBJECT c = object_tallied _ _ _ _ _ _ c.if-kind-eq-OBJECT.true c.told-slots c.tally_all.ensures

pub returns-then-all_zero : goal.returns-then-all_zero
returns-then-all_zero c = empty_tallied _ _ _ _ c.if-kind-eq-OBJECT.false (sym c.all_zero.ensures ∙ c.if-all_zero.true)

pub returns : goal.returns
returns c = fault_tallied _ _ _ _ c.if-kind-eq-OBJECT.false (sym c.all_zero.ensures ∙ c.if-all_zero.false)
