-- How far from zero the columns of possible rows are: the totals of a report that takes a heap, and a heap's row.
-- Assumes nothing.
use Prim.Native.Nat.{ℕ, ◌-◌, ◌<◌}
use native.Mathlib.Omega.{arith}
use mathlib.Core.Bool.{Bool, true, false, cond}
use mathlib.Core.Path.{◌≡◌, refl, sym, ◌∙◌}
use lib.Dec.{ltb, leb}
use borrow.Author.Tests.{ltb-true, leb-true}
use Rattle.rules.specs.declared.audit.Row.{Row}
use Rattle.rules.specs.declared.audit.Report.{Report}
use Rattle.rules.specs.Heap.{Heap, count_of}
use Rattle.rules.specs.Sound.{Sized}
use Rattle.rules.specs.Audit.{row_references, fitting_row, possible_for, possible, refusal_of}
use Rattle.laws.specs.Lists.Tests.{and_left, and_right}
use Rattle.laws.specs.Audit.Possible.{possible_test}
use Rattle.laws.specs.Audit.Heaps.{fitting_size, heap_possible}
use Rattle.audit.specs.Bounds.{Small}
use Rattle.audit.specs.Clauses.{cells_fit, lost_fits}
use Rattle.signed.proofs.Integers.{sides_within}
use Rattle.audit.proofs.Clauses.{in_parts, cells_facts, lost_facts, sum_facts}

possible_small : (k : ℕ) (r : Row) → k < 1000 → r.size < 1000 → possible_for k r ≡ true → Small r
possible_small k r h s t =
    let parts = sym (in_parts k r) ∙ t in
    let cells = cells_facts k r (and_left (cells_fit k r) _ parts) in
    let rest = and_right (cells_fit k r) _ parts in
    let lost = lost_facts (row_references k r) r (and_left (lost_fits (row_references k r) r) _ rest) in
    let sum = sum_facts k (row_references k r) r (and_right (lost_fits (row_references k r) r) _ rest) in
    let sides = sides_within 1000000000000 r.sum (omega (arith, sum.over, cells.most)) (omega (arith, sum.under, cells.most)) in
    record {
      below = omega (arith, cells.most);
      at = omega (arith, cells.most);
      above = omega (arith, cells.most);
      sum_up = sides.0;
      sum_down = sides.1;
      lost = omega (arith, lost, cells.most);
      size = omega arith;
    }

report_small : (p : Report) → p.heaps < 1000 → possible p ≡ true → Small p.totals
unfolding possible
report_small p h t =
    let k = p.heaps - p.totals.size in
    let few = leb p.totals.size p.heaps in
    let size = leb-true p.totals.size p.heaps (and_left few (possible_for k p.totals) t) in
    possible_small k p.totals (omega arith) (omega (arith, size)) (and_right few (possible_for k p.totals) t)

pub taking : (p : Report) → refusal_of p ≡ 0 → (p.heaps < 1000) × Small p.totals
unfolding refusal_of
taking p e = go (ltb p.heaps 1000) (possible p) refl refl e
  where
    go : (a b : Bool) → ltb p.heaps 1000 ≡ a → possible p ≡ b → ◌≡◌ {A = ℕ} (cond a (cond b 0 12) 14) 0 → (p.heaps < 1000) × Small p.totals
    go true true s t z = (ltb-true _ _ s, report_small p (ltb-true _ _ s) t)
    go true false s t z = absurd (omega arith)
    go false b s t z = absurd (omega arith)

-- its counts are 16-bit numbers
pub heap_small : (h : Heap) → Sized h → ((c : ℕ) → count_of h c < 65536) → Small (fitting_row h)
heap_small h z b = possible_small 1 (fitting_row h) (omega arith) (omega (arith, fitting_size h)) (possible_test 1 (fitting_row h) (heap_possible h z b))
