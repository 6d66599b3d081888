-- The counts that a full take-off meets, at any point of its cascade.
-- Assumes nothing.
use Prim.Native.Nat.{ℕ, zero, suc}
use Rattle.std.proofs.Common.{arith}
use Rattle.std.specs.Prelude.{List, [], ◌∷◌, ◌++◌, Bool, ◌≡◌, refl, length}
use Rattle.std.proofs.Math.Bool.{true, false}
use Rattle.std.proofs.Math.ListN.{length-append}
use Rattle.rules.specs.Heap.{count_of, slots_of, emptied, set_count, set_queue, enqueue, wipe}
use Rattle.rules.specs.Release.{Work, refzero, finalizable, decremented, lower, decref, decrefs, with_pending, retire, serve, drain, release}
use Rattle.rules.specs.Counts.{met, decrefs_met, serve_met, drain_met, release_met}
use Rattle.laws.specs.Sound.But.{SoundBut}
use Rattle.laws.specs.Release.Balance.{Balanced, Draining}
use Rattle.laws.specs.Release.Decref.{count_above_zero, decref_balanced}
use Rattle.laws.specs.Release.Serve.{Settled, served, served_count, serve_begin, serve_draining, release_due, decref_draining}
use Rattle.laws.specs.Release.Taken.{sound_settled}
use Rattle.laws.specs.Counts.Noted.{Noted, sum_still, noted_nothing, noted_one, noted_then}

-- from one point of a take-off to a later one
abbrev pub NotedWork : Work → Work → List ℕ → Type 0
NotedWork w v l = Noted w.heap.count (length w.queued) v.heap.count (length v.queued) l

module _ (w : Work) (serving done held : List ℕ) (c : ℕ) (b : Balanced w serving done (suc c ∷ held)) where
  refzero_noted : (f : Bool) → count_of w.heap c ≡ 1 → NotedWork w (refzero f w c) (count_of w.heap c ∷ [])
  unfolding refzero set_count enqueue set_queue
  refzero_noted true e = noted_one w.heap.count c 1 _ _ (omega arith) (omega (arith, length-append w.queued (c ∷ [])))
  refzero_noted false e = noted_one w.heap.count c 0 _ _ (omega arith) (omega arith)

  lower_noted : (n : ℕ) → count_of w.heap c ≡ n → NotedWork w (lower w c (decremented n)) (count_of w.heap c ∷ [])
  unfolding decremented lower set_count
  lower_noted zero e = absurd (omega (arith, count_above_zero w serving done held c b))
  lower_noted (suc zero) e = refzero_noted (finalizable w.heap c) e
  lower_noted (suc (suc n)) e = noted_one w.heap.count c (suc n) _ _ (omega arith) (omega arith)

decref_noted : (w : Work) (serving done : List ℕ) (r : ℕ) (held : List ℕ) → Balanced w serving done (r ∷ held) → NotedWork w (decref w r) (met w.heap r)
unfolding decref met
decref_noted w serving done zero held b = noted_nothing refl
decref_noted w serving done (suc c) held b = lower_noted w serving done held c b (count_of w.heap c) refl

decrefs_noted : (w : Work) (serving done l held : List ℕ) → Balanced w serving done (l ++ held) → NotedWork w (decrefs w l) (decrefs_met w l)
unfolding decrefs decrefs_met
decrefs_noted w serving done [] held b = noted_nothing refl
decrefs_noted w serving done (r ∷ l) held b =
    noted_then (met w.heap r) (decrefs_met (decref w r) l) (decref_noted w serving done r (l ++ held) b)
    (decrefs_noted (decref w r) serving done l held (decref_balanced w serving done r (l ++ held) b))

-- the served cell's count is 0 when the cell is freed
serve_noted : (w : Work) (done outside : List ℕ) (c : ℕ) (rest : List ℕ) → w.pending ≡ c ∷ rest → Draining w done outside → NotedWork w (serve w c rest) (serve_met w c rest)
unfolding serve retire wipe with_pending serve_met
serve_noted w done outside c rest e d =
    let all : NotedWork (with_pending w rest) (served w c rest) (serve_met w c rest) =
    decrefs_noted (with_pending w rest) (c ∷ []) done (slots_of w.heap.slots c) (emptied w.heap.slots c ++ outside) (serve_begin w done outside c rest e d) in
    record {
      none = all.none;
      balance = omega (arith, all.balance, sum_still (served w c rest).heap.count c (served_count w done outside c rest e d));
    }

-- however many turns the work list is given
drain_noted : (fuel : ℕ) (w : Work) (done outside : List ℕ) → Draining w done outside → NotedWork w (drain fuel w) (drain_met fuel w)
unfolding drain_met drain
drain_noted zero w done outside d = noted_nothing refl
drain_noted (suc fuel) w done outside d = go w.pending refl (λ c rest e. drain_noted fuel (serve w c rest) (done ++ (c ∷ [])) outside (serve_draining w done outside c rest e d))
  where
    go : (p : List ℕ) → w.pending ≡ p → ((c : ℕ) (rest : List ℕ) → w.pending ≡ c ∷ rest → NotedWork (serve w c rest) (drain fuel (serve w c rest)) (drain_met fuel (serve w c rest)))
        → NotedWork w (elim p [ [] ↦ w | c ∷ rest ↦ drain fuel (serve w c rest) ]) (elim p [ [] ↦ [] | c ∷ rest ↦ serve_met w c rest ++ drain_met fuel (serve w c rest) ])
    go [] e again = noted_nothing refl
    go (c ∷ rest) e again = noted_then (serve_met w c rest) (drain_met fuel (serve w c rest)) (serve_noted w done outside c rest e d) (again c rest e)

-- a full take-off of r, where r is counted and stands nowhere
pub release_noted : (w : Work) (r : ℕ) (extra : List ℕ) → w.pending ≡ [] → SoundBut w.heap (r ∷ extra) → NotedWork w (release w r) (release_met w r)
unfolding release_met release
release_noted w r extra e s =
    let t : Settled w (r ∷ extra ++ w.heap.roots) = sound_settled w (r ∷ extra) e s in
    let d : Draining w [] (r ∷ extra ++ w.heap.roots) = t.draining in
    noted_then (met w.heap r) (drain_met (length w.heap.kind) (decref w r))
    (decref_noted w [] [] r (w.heap.slots ++ (extra ++ w.heap.roots)) (release_due w r [] (extra ++ w.heap.roots) d))
    (drain_noted (length w.heap.kind) (decref w r) [] (extra ++ w.heap.roots) (decref_draining w r [] (extra ++ w.heap.roots) d))
