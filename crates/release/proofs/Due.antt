-- What the code may rely on where a reference is due: the numbers that keep its indexes in range, and that a count which is not shared is 1.
-- Assumes nothing.
use Prim.Native.Nat.{ℕ, suc, ◌-◌, ◌≤◌, ◌<◌}
use native.Mathlib.Omega.{arith}
use mathlib.Core.List.{List, [], ◌∷◌}
use mathlib.Core.Bool.{Bool, false}
use mathlib.Core.Path.{◌≡◌, subst, subst⁻¹}
use lib.ListN.{length}
use Rattle.rules.specs.Heap.{Heap, queued, count_of}
use Rattle.rules.specs.Release.{decref, refzero, finalizable}
use Rattle.laws.specs.Release.Decref.{count_above_zero, in_range, queue_room, work_room}
use Rattle.laws.specs.Release.Serve.{work_list}
use Rattle.release.specs.Steps.{working, Named, SharedOff, ToComeOff, LastToComeOff, CameOff}
use Rattle.release.proofs.Step.{counting, at_zero_lem}

pub tail_fits : {h : Heap} {freed : List ℕ} {tail : ℕ} {l : List ℕ} → ToComeOff h freed tail l → tail ≤ length freed
tail_fits d = omega (arith, work_list _ _ _ _ d.balanced, d.listed, d.room)

pub tail_small : {h : Heap} {freed : List ℕ} {tail : ℕ} {l : List ℕ} → ToComeOff h freed tail l → tail ≤ 1024
tail_small d = omega (arith, work_list _ _ _ _ d.balanced, d.listed, d.balanced.fit.small)

-- a reference that is not empty names cell r - 1
pub named_due : {h : Heap} {freed : List ℕ} {tail r : ℕ} → ToComeOff h freed tail (r ∷ []) → (r ≡ 0 → ⊥) → ToComeOff h freed tail (suc (r - 1) ∷ [])
named_due {h} {freed} {tail} d some = subst (λ (x : ℕ). ToComeOff h freed tail (x ∷ [])) (omega arith) d

pub due_named : {h : Heap} {freed : List ℕ} {tail r : ℕ} → ToComeOff h freed tail (r ∷ []) → Named h.count r
due_named {h} {freed} {tail} d = record {
  range = λ c e. omega (
    arith,
    in_range _ _ _ _ c (subst (λ (x : ℕ). ToComeOff h freed tail (x ∷ [])) e d).balanced,
    d.balanced.fit.count_size,
  );
}

module _ {h : Heap} {freed : List ℕ} {tail c : ℕ} (d : ToComeOff h freed tail (suc c ∷ [])) where
  -- the reference is counted, so that no count of zero is met
  pub last_one : count_of h c ≤ 1 → count_of h c ≡ 1
  last_one few = omega (arith, count_above_zero _ _ _ _ c d.balanced)

  pub queue_free : count_of h c ≡ 1 → queued h < length h.queue
  queue_free e = omega (arith, queue_room _ _ _ _ c d.balanced e, d.balanced.fit.queue_size)

  pub work_free : tail < length freed
  work_free = omega (arith, d.room, work_room _ _ _ _ c d.balanced, d.listed)

-- ---- the last reference to a cell

module _ {h : Heap} {n freed : List ℕ} {tail r : ℕ} {off : Bool} (d : ToComeOff h freed tail (r ∷ [])) (s : SharedOff h.count r n off) (left : off ≡ false) where
  only_one : count_of h (r - 1) ≡ 1
  only_one = last_one (named_due d (omega (arith, s.some left))) (s.last left)

  pub last_due : LastToComeOff (counting h n) freed tail r
  last_due =
      subst⁻¹ (λ (m : List ℕ). LastToComeOff (counting h m) freed tail r) (s.kept left) (record { due = d; some = s.some left; last = only_one })

  -- the rules' step leaves what their `refzero` does
  pub came_off_last : {h' : Heap} {after : List ℕ} {next : ℕ}
      → CameOff (refzero (finalizable (counting h n) (r - 1)) (working (counting h n) []) (r - 1)) h' freed tail after next
      → CameOff (decref (working h []) r) h' freed tail after next
  came_off_last {h'} {after} {next} e =
      at_zero_lem h freed tail (tail_fits d) r (omega (arith, s.some left)) h' after next only_one
      (subst (λ (m : List ℕ). CameOff (refzero (finalizable (counting h m) (r - 1)) (working (counting h m) []) (r - 1)) h' freed tail after next) (s.kept left) e)
