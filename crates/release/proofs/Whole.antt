-- For callers: what `release` asks follows from a heap that is sound but for the reference, and what it ensures holds of a whole work:
-- after what was freed and queued before.
-- Assumes nothing.
use Prim.Native.Nat.{ℕ, suc, ◌+◌, ◌≤◌}
use native.Mathlib.Omega.{arith}
use mathlib.Core.List.{List, [], ◌∷◌, ◌++◌, map, map-append, append-nil}
use mathlib.Core.Path.{◌≡◌, refl, sym, ap, ◌∙◌}
use lib.ListN.{length, take, length-append}
use Rattle.rules.specs.Heap.{Heap, cells, queued}
use Rattle.rules.specs.Release.{Work, start, release}
use Rattle.laws.specs.Sound.But.{SoundBut}
use Rattle.laws.specs.Release.Decref.{beside_balanced}
use Rattle.laws.specs.Release.Advance.{advance_queued}
use Rattle.laws.specs.Release.Onto.{onto}
use Rattle.laws.specs.Release.Beside.{beside, release_beside}
use Rattle.laws.specs.Release.Balance.{Draining}
use Rattle.laws.specs.Release.Serve.{Drained, release_drained}
use Rattle.laws.specs.Release.Taken.{sound_settled}
use Rattle.release.specs.Release.{Releasable, WorkDone}

-- a call may begin in the middle of a work, where nothing waits
pub begun_draining : (w : Work) (done outside : List ℕ) → w.pending ≡ [] → Draining w done outside → Draining (start w.heap) done outside
unfolding start
begun_draining w done outside e a =
    record { slots = a.slots; plain_slots = a.plain_slots; balanced = rw e at (beside_balanced _ _ _ _ w.heap.slots w.heap.roots [] [] a.balanced) }

-- the first take-off of a call
pub releasable : (h : Heap) (r : ℕ) (extra : List ℕ) → SoundBut h (r ∷ extra) → Releasable h 0 r
unfolding start
releasable h r extra s = record {
  outside = extra ++ h.roots;
  done = [];
  place = refl;
  draining = (sound_settled (start h) (r ∷ extra) refl s).draining;
}

-- the same take-off from w
pub whole_is : (w : Work) (r : ℕ) → w.pending ≡ [] → release w r ≡ beside w.heap.roots w.freed w.queued (release (start w.heap) r)
unfolding beside onto start
whole_is w r e =
    let same : w ≡ beside w.heap.roots w.freed w.queued (start w.heap) =
    λ i. record { heap = w.heap; pending = e i; freed = sym (append-nil w.freed) i; queued = sym (append-nil w.queued) i } in
    ap (λ (v : Work). release v r) same ∙ release_beside w.heap.roots w.freed w.queued (start w.heap) r

-- The code's tables, after a take-off that began with those of w, are those of the whole work v; the queue grew by what v queued.
-- If w had freed `from` cells, v has freed `end`; and if the table for them named those of w up to `from`, it names those of v up to `end`.
pub record WorkDoneFrom (w v : Work) (h : Heap) (before : List ℕ) (from : ℕ) (after : List ℕ) (end : ℕ) : Type 0 where
  pub heap : h ≡ v.heap
  pub many : from ≡ length w.freed → end ≡ length v.freed
  pub listed : cells h ≤ length before → take from before ≡ map suc w.freed → take end after ≡ map suc v.freed
  pub grown : length w.queued + queued h ≡ length v.queued + queued w.heap
  pub empty : v.pending ≡ []

module _ (w : Work) {r from : ℕ} (p : Releasable w.heap from r) where
  drained : Drained (start w.heap) (release (start w.heap) r) p.done p.outside
  drained = release_drained (start w.heap) r p.done p.outside p.draining

  grown : queued (release (start w.heap) r).heap ≡ queued w.heap + length (release (start w.heap) r).queued
  unfolding start
  grown =
      let b = p.draining.balanced in
      let c = drained.draining.balanced in
      omega (
        arith,
        advance_queued (start w.heap) (release (start w.heap) r) drained.cells drained.joined drained.advance
            (omega (arith, b.queue.within, b.fit.queue_size)) (omega (arith, c.queue.within, c.fit.queue_size)),
        ap length drained.advance.queued,
      )

  -- the take-off writes no root, so that they need not be put back
  roots_back : (beside w.heap.roots w.freed w.queued (release (start w.heap) r)).heap ≡ (release (start w.heap) r).heap
  unfolding beside onto start
  roots_back = sym (ap (λ (u : Work). u.heap) (release_beside w.heap.roots [] [] (start w.heap) r))

  pub whole : {h : Heap} {before after : List ℕ} {end : ℕ} → w.pending ≡ [] → WorkDone (release (start w.heap) r) h before from after end
      → WorkDoneFrom w (release w r) h before from after end
  unfolding beside onto
  whole e d =
      let v : Work = release (start w.heap) r in
      let is : release w r ≡ beside w.heap.roots w.freed w.queued v = whole_is w r e in
      record {
        heap = d.heap ∙ sym roots_back ∙ sym (ap (λ (u : Work). u.heap) is);
        many = λ same. omega (arith, d.many, ap (λ (u : Work). length u.freed) is, length-append w.freed v.freed);
        listed = λ room same.
            d.listed room ∙ ap (λ (l : List ℕ). l ++ map suc v.freed) same
            ∙ sym (map-append suc w.freed v.freed) ∙ sym (ap (λ (u : Work). map suc u.freed) is);
        grown = omega (
          arith,
          ap (λ (g : Heap). queued g) d.heap,
          grown,
          ap (λ (u : Work). length u.queued) is,
          length-append w.queued v.queued,
        );
        empty = ap (λ (u : Work). u.pending) is ∙ drained.empty;
      }
