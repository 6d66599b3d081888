-- A whole take-off does not read the roots, nor what had been freed and queued before it.
-- Assumes nothing.
use Prim.Native.Nat.{ℕ, zero, suc}
use mathlib.Core.List.{List, [], ◌∷◌, ◌++◌, append_assoc}
use Rattle.std.specs.Prelude.{◌≡◌}
use Rattle.std.proofs.Math.Path.{refl, ap}
use Rattle.std.proofs.Common.{sym, ◌∙◌}
use Rattle.rules.specs.Heap.{cells, slots_of, wipe}
use Rattle.rules.specs.Release.{Work, decref, decrefs, with_pending, retire, serve, drain, release}
use Rattle.laws.specs.Release.Onto.{onto, decrefs_onto}
use Rattle.laws.specs.Release.Advance.{decrefs_frame}
use Rattle.laws.specs.Release.Serve.{drain_empty, drain_step}

-- v with these roots, after these cells freed and queued
unfoldable pub beside : (roots freed queued : List ℕ) → Work → Work
unfolding onto
beside roots freed queued v = onto v.heap.slots roots [] freed queued v

module _ (r a b : List ℕ) where
  decrefs_beside : (v : Work) (l : List ℕ) → decrefs (beside r a b v) l ≡ beside r a b (decrefs v l)
  unfolding beside
  decrefs_beside v l =
      decrefs_onto v.heap.slots r [] a b v l ∙ ap (λ (s : List ℕ). onto s r [] a b (decrefs v l)) (sym (decrefs_frame v l).slots)

  retire_beside : (v : Work) (c : ℕ) → retire (beside r a b v) c ≡ beside r a b (retire v c)
  unfolding beside retire wipe
  retire_beside v c = λ i. record { heap = (beside r a b (retire v c)).heap; pending = v.pending; freed = append_assoc a v.freed (c ∷ []) i; queued = b ++ v.queued }

  serve_beside : (v : Work) (c : ℕ) (rest : List ℕ) → serve (beside r a b v) c rest ≡ beside r a b (serve v c rest)
  unfolding beside serve with_pending
  serve_beside v c rest =
      let l : List ℕ = slots_of v.heap.slots c in
      ap (λ (w : Work). retire w c) (decrefs_beside (with_pending v rest) l) ∙ retire_beside (decrefs (with_pending v rest) l) c

  drain_go : (fuel : ℕ) (v : Work) → ((u : Work) → drain fuel (beside r a b u) ≡ beside r a b (drain fuel u))
      → (p : List ℕ) → v.pending ≡ p → drain (suc fuel) (beside r a b v) ≡ beside r a b (drain (suc fuel) v)
  unfolding beside
  drain_go fuel v again [] e = drain_empty (suc fuel) (beside r a b v) e ∙ ap (beside r a b) (sym (drain_empty (suc fuel) v e))
  drain_go fuel v again (c ∷ rest) e =
      drain_step fuel (beside r a b v) c rest e ∙ ap (drain fuel) (serve_beside v c rest) ∙ again (serve v c rest) ∙ ap (beside r a b) (sym (drain_step fuel v c rest e))

  pub drain_beside : (fuel : ℕ) (v : Work) → drain fuel (beside r a b v) ≡ beside r a b (drain fuel v)
  unfolding drain
  drain_beside zero v = refl
  drain_beside (suc fuel) v = drain_go fuel v (drain_beside fuel) v.pending refl

  pub release_beside : (v : Work) (x : ℕ) → release (beside r a b v) x ≡ beside r a b (release v x)
  unfolding release beside decrefs
  release_beside v x = ap (drain (cells v.heap)) (decrefs_beside v (x ∷ [])) ∙ drain_beside (cells v.heap) (decref v x)
