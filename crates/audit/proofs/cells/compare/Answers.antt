-- `audit::cells::compare` meets its contract. The invariant, `Comparing`: the cells passed have their differences written and added.
-- Assumes nothing.
use Rattle.std.proofs.Common.{ℕ, ◌≤◌, ◌≡◌, List, get_or, Fits, ap, arith}
use Rattle.std.specs.Int.{w16}
use Rattle.std.specs.Prelude.{pos}
use Rattle.std.proofs.lemmas.Int.{ints}
use Rattle.rules.specs.Audit.{up, down}
use Rattle.laws.specs.Audit.Integers.{less_difference}
use Rattle.audit.specs.declared.cells.Sides.{Sides}
use Rattle.audit.specs.Cells.{minus}
use Rattle.audit.proofs.Comparing.{comparing_begin, room_for_cell, comparing_turn}
use Rattle.audit.proofs.cells.compare.Goals as goal

-- each difference is one of 16-bit numbers
sixteen : (count counted : List ℕ) → ((i : ℕ) → Fits w16 (get_or count i 0)) → ((i : ℕ) → Fits w16 (get_or counted i 0)) → (i : ℕ)
    → (up (minus count counted i) ≤ 65535) × (down (minus count counted i) ≤ 65535)
sixteen count counted fit fit2 i =
    let d = less_difference (get_or count i 0) (get_or counted i 0) in
    (omega (arith, d.over, fit i), omega (arith, d.missing, fit2 i))

-- so far nothing is added up
nothing : {s : Sides} → (s.below ≡ 0) × ((s.above ≡ 0) × (s.sum ≡ pos 0)) → s ≡ record { below = 0; above = 0; sum = pos 0 }
nothing e = λ i. record { below = e.0 i; above = e.1.0 i; sum = e.1.1 i }

pub loop-c-init : goal.loop-c-init
loop-c-init c = rw (nothing c.default-sides.ensures) (comparing_begin _ _ c.requires.0)

pub add_cell-sides-requires : goal.add_cell-sides-requires
add_cell-sides-requires c =
    let v = c.loop-c.invariant in
    let count = c.args.count.now in
    let counted = c.args.counted.now in
    let r = room_for_cell (minus count counted) (sixteen count counted c.type_inv.count c.type_inv.counted) c.loop-c.c (omega arith) in (
      omega (arith, r.0, ap (λ (s : Sides). s.below) v.added),
      omega (arith, r.1, ap (λ (s : Sides). s.above) v.added),
      omega (arith, r.2, ap (λ (s : Sides). up s.sum) v.added),
      omega (arith, r.3, ap (λ (s : Sides). down s.sum) v.added),
    )

pub loop-c-preserved : goal.loop-c-preserved
loop-c-preserved c = comparing_turn c.loop-c.invariant _ _ c.loop-c-test.true (omega (arith, ints)) c.add_cell-sides.ensures
