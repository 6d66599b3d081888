-- `sweep::mark_and_queue` meets its contract. Assumes nothing.
use Prim.Native.Nat.{ℕ}
use native.Mathlib.Omega.{arith}
use mathlib.Core.List.{List, [], ◌++◌}
use mathlib.Core.Path.{◌≡◌, ap, subst, subst⁻¹}
use lib.ListN.{length, replicate}
use Rattle.rules.specs.declared.tables.Tables.{Tables}
use Rattle.rules.specs.Heap.{Heap, cells, queued, entries}
use Rattle.rules.specs.Tables.{heap_of}
use Rattle.rules.specs.Marking.{mark_from}
use Rattle.rules.specs.Words.{marks_of}
use Rattle.rules.specs.Collect.{reached_marks}
use Rattle.laws.specs.Sound.But.{SoundBut}
use Rattle.laws.specs.Words.Marks.{HasMarks}
use Rattle.marking.specs.Steps.{cells_of}
use Rattle.sweep.proofs.Whole.{first_asks, first_marks, queue_asks, queue_end, second_asks, second_kept}
use Rattle.sweep.proofs.mark_and_queue.Goals as goal

-- the tables as they are read are those that are lent
module _ (t : Tables) {h : Heap} (e : heap_of t ≡ h) (s : SoundBut h []) where
  sound : SoundBut (heap_of t) []
  sound = subst⁻¹ (λ (g : Heap). SoundBut g []) e s

  module _ {words : List ℕ} (p : HasMarks (cells h) words (replicate (cells h) 0)) where
    unmarked : HasMarks (cells (heap_of t)) words (replicate (cells (heap_of t)) 0)
    unmarked = subst⁻¹ (λ (g : Heap). HasMarks (cells g) words (replicate (cells g) 0)) e p

    reached : {words₁ : List ℕ} → HasMarks (cells_of t.slots.now) words₁ (mark_from t.slots.now (marks_of (cells_of t.slots.now) words) (t.roots.now ++ entries (heap_of t)))
        → HasMarks (cells h) words₁ (reached_marks h)
    reached {words₁} q = subst (λ (g : Heap). HasMarks (cells g) words₁ (reached_marks g)) e (first_marks sound unmarked q)

pub mark_all-requires : goal.mark_all-requires
mark_all-requires c =
    let now = c.shared-before in
    let asks = first_asks (sound now.result now.ensures c.requires.sound_but) (unmarked now.result now.ensures c.requires.sound_but c.requires.has_marks) in
    record { slots = asks.0; words_for = asks.1.0; within = asks.1.1.0; within_2 = asks.1.1.1.0; closed_marks = asks.1.1.1.1 }

pub queue_unmarked-queued-requires-clause-queue_room : goal.queue_unmarked-queued-requires-clause-queue_room
queue_unmarked-queued-requires-clause-queue_room c =
    let now = c.shared-before in
    queue_asks c.requires.sound_but (reached now.result now.ensures c.requires.sound_but c.requires.has_marks c.mark_all.ensures)

pub slice_bounds-mark_from-end : goal.slice_bounds-mark_from-end
slice_bounds-mark_from-end c =
    let now = c.shared-before in
    let marks = reached now.result now.ensures c.requires.sound_but c.requires.has_marks c.mark_all.ensures in
    omega (
      arith,
      queue_end c.requires.sound_but marks c.queue_unmarked-queued.ensures.queued,
      ap queued now.ensures,
      ap (λ (g : Heap). length g.queue) c.shared-after.ensures,
    )

pub mark_from-requires : goal.mark_from-requires
mark_from-requires c =
    let now = c.shared-before in
    let marks = reached now.result now.ensures c.requires.sound_but c.requires.has_marks c.mark_all.ensures in
    let joined = rw (← c.shared-after.ensures) at c.queue_unmarked-queued.ensures.queued in
    let asks = second_asks c.requires.sound_but marks joined (ap queued now.ensures) (omega arith) in
    record { slots = asks.0; words_for = asks.1.0; within = asks.1.1.0; closed_marks = asks.1.1.1 }

pub returns-clause-queued : goal.returns-clause-queued
returns-clause-queued c =
    let now = c.shared-before in
    let marks = reached now.result now.ensures c.requires.sound_but c.requires.has_marks c.mark_all.ensures in
    let joined = rw (← c.shared-after.ensures) at c.queue_unmarked-queued.ensures.queued in
    rw (← c.shared-after.ensures) (second_kept c.requires.sound_but marks joined (ap queued now.ensures) (omega arith) c.mark_from.ensures)
