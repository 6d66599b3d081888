-- COLLECT frees in order of cell number: its list is that of the cells used before and free after, as they are numbered.
-- Assumes nothing.
use Rattle.std.specs.Prelude.{ℕ, [], Bool, not, ◌&&◌, ◌≢◌, ◌≡◌, eqb, get_or}
use Rattle.std.proofs.Common.{arith}
use borrow.Author.Tests.{eqb-true, eqb-false, eq-eqb, not-true}
use Rattle.rules.specs.Heap.{Heap, cells, kind_of}
use Rattle.rules.specs.Collect.{kept_marks, garbage, collect}
use Rattle.rules.specs.Numbers.{freed_cells}
use Rattle.laws.specs.Lists.Tests.{and_join, and_left, and_right, agree}
use Rattle.laws.specs.Lists.Select.{select_only, select_in, select_same}
use Rattle.laws.specs.Sound.But.{SoundBut}
use Rattle.laws.specs.Collect.Swept.{collect_freed, freed_collect}

module _ (h : Heap) (s : SoundBut h []) where
  abbrev used : ℕ → Bool
  used c = not (eqb (kind_of h c) 0)

  abbrev unmarked : ℕ → Bool
  unmarked c = eqb (get_or (kept_marks h) c 0) 0

  abbrev free : ℕ → Bool
  free c = eqb (kind_of (collect h).heap c) 0

  pub collect_ordered : (collect h).freed ≡ freed_cells h (collect h).heap
  unfolding collect garbage freed_cells
  collect_ordered =
      select_same (λ c. used c && unmarked c) (λ c. used c && free c) (cells h)
      (λ c l. agree (used c && unmarked c) (used c && free c)
      (λ d.
      let f = collect_freed h s c (unfold collect in (unfold garbage in select_in (λ c. used c && unmarked c) (cells h) c l d)) in
      and_join (and_left (used c) (unmarked c) d) (eq-eqb (kind_of (collect h).heap c) 0 f.1))
      (λ w.
      let n : kind_of h c ≢ 0 = eqb-false (kind_of h c) 0 (not-true _ (and_left (used c) (free c) w)) in
      (select_only (λ c. used c && unmarked c) (cells h) c (freed_collect h s c (omega arith) (eqb-true _ 0 (and_right (used c) (free c) w)))).1))
