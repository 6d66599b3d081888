-- A queue closes up behind its head: its other entries are copied down by one, and the last one's place is emptied.
-- Assumes nothing.
use Rattle.std.proofs.Common.{ℕ, suc, ◌+◌, ◌-◌, ◌≡◌, ◌≢◌, List, [], ◌∷◌, ◌++◌, length, get_or, set, drop, refl, sym, ap, ◌∙◌, arith}
use native.Mathlib.Decide.{dec_lt}
use mathlib.Core.Logic.{by_cases}
use lib.ListN.{length-set}
use lib.Seq.{ext_get_or, get_or-set_same, get_or-set_other}
use Rattle.std.specs.List.{CopiedTo, SameFrom}
use Rattle.rules.specs.Heap.{Heap, tables, queued, queue_at}
use Rattle.laws.specs.Lists.Tables.{by_cell}
use Rattle.laws.specs.Calls.Admission.{tables_eq}
use Rattle.laws.specs.Calls.Finish.{pop_at, pop_length}
use Rattle.finalizers.specs.Finish.{Waits, Popped}

module _ (h : Heap) (w : Waits h) (q : List ℕ) (size : length q ≡ length h.queue) {n : ℕ} (many : n ≡ queued h)
    (down : CopiedTo h.queue q 1 0 (n - 1)) (still : SameFrom h.queue q (0 + (n - 1))) where
  other : (j : ℕ) → j ≢ n - 1 → get_or q j 0 ≡ queue_at h (suc j)
  other j d =
      by_cases (dec_lt j (n - 1))
      (λ l. down j 0 (omega arith) (omega arith) ∙ ap (λ (i : ℕ). queue_at h i) (omega arith))
      (λ g. still j 0 (omega arith) ∙ w.rest j (omega (arith, w.some)) ∙ sym (w.rest (suc j) (omega (arith, w.some))))

  closed : set q (n - 1) 0 ≡ drop 1 h.queue ++ (0 ∷ [])
  closed =
      let at : (j : ℕ) → get_or (set q (n - 1) 0) j 0 ≡ queue_at h (suc j) =
      by_cell (n - 1)
      (get_or-set_same q (n - 1) 0 0 (omega (arith, size, w.within, w.some)) ∙ sym (w.rest (suc (n - 1)) (omega arith)))
      (λ j d. get_or-set_other q (n - 1) j 0 0 d ∙ other j d) in
      ext_get_or 0 (set q (n - 1) 0) (drop 1 h.queue ++ (0 ∷ []))
      (length-set q (n - 1) 0 ∙ size ∙ sym (pop_length h.queue (omega (arith, w.within, w.some))))
      (λ j b. at j ∙ sym (pop_at h.queue j))

  pub popped : Popped h (tables h.kind h.flags h.count h.slots h.roots (set q (n - 1) 0) (set h.control 0 (queued h - 1)))
  popped = tables_eq refl refl refl refl refl closed refl
