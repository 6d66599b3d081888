-- Taking references off reads neither slots, roots, the work list nor what was freed and queued: any of them may stand beside.
-- Assumes nothing.
use Prim.Native.Nat.{ℕ, zero, suc}
use mathlib.Core.List.{List, [], ◌∷◌, ◌++◌, append_assoc}
use Rattle.std.specs.Prelude.{Bool, ◌≡◌}
use Rattle.std.proofs.Math.Bool.{true, false}
use Rattle.std.proofs.Math.Path.{refl, ap}
use Rattle.std.proofs.Common.{◌∙◌}
use Rattle.rules.specs.Heap.{tables, count_of, set_count, set_queue, enqueue}
use Rattle.rules.specs.Release.{Work, decremented, decref, decrefs, lower, refzero, finalizable}

-- v with these slots and roots, after this work list and these cells freed and queued
unfoldable pub onto : (slots roots pending freed queued : List ℕ) → Work → Work
onto slots roots pending freed queued v = record {
  heap = tables v.heap.kind v.heap.flags v.heap.count slots roots v.heap.queue v.heap.control;
  pending = pending ++ v.pending;
  freed = freed ++ v.freed;
  queued = queued ++ v.queued;
}

module _ (s r p f q : List ℕ) where
  refzero_onto : (b : Bool) (v : Work) (c : ℕ) → refzero b (onto s r p f q v) c ≡ onto s r p f q (refzero b v c)
  unfolding refzero onto set_count enqueue set_queue
  refzero_onto true v c = λ i. record { heap = (onto s r p f q (refzero true v c)).heap; pending = p ++ v.pending; freed = f ++ v.freed; queued = append_assoc q v.queued (c ∷ []) i }
  refzero_onto false v c = λ i. record { heap = (onto s r p f q (refzero false v c)).heap; pending = append_assoc p v.pending (c ∷ []) i; freed = f ++ v.freed; queued = q ++ v.queued }

  lower_onto : (v : Work) (c n : ℕ) → lower (onto s r p f q v) c n ≡ onto s r p f q (lower v c n)
  unfolding lower onto set_count finalizable
  lower_onto v c zero = refzero_onto (finalizable v.heap c) v c
  lower_onto v c (suc n) = refl

  pub decref_onto : (v : Work) (x : ℕ) → decref (onto s r p f q v) x ≡ onto s r p f q (decref v x)
  unfolding decref onto
  decref_onto v zero = refl
  decref_onto v (suc c) = lower_onto v c (decremented (count_of v.heap c))

  pub decrefs_onto : (v : Work) (l : List ℕ) → decrefs (onto s r p f q v) l ≡ onto s r p f q (decrefs v l)
  unfolding decrefs
  decrefs_onto v [] = refl
  decrefs_onto v (x ∷ l) = ap (λ (w : Work). decrefs w l) (decref_onto v x) ∙ decrefs_onto (decref v x) l
