-- What each call that writes a reference does is one write.
-- Assumes nothing.
use Prim.Native.Nat.{ℕ, suc, ◌<◌}
use mathlib.Core.List.{List}
use mathlib.Core.Path.{◌≡◌, refl}
use Rattle.rules.specs.declared.Answer.{Answer}
use Rattle.rules.specs.Heap.{Heap, cells, kind_of, slot_of, root_at}
use Rattle.rules.specs.Sound.{Ready}
use Rattle.rules.specs.Refusals.{is_fresh}
use Rattle.rules.specs.Refusals.Call.{CLEAR, COPY, LOAD, STORE}
use Rattle.rules.specs.Calls.{write_root, write_slot, act}
use Rattle.laws.specs.Calls.Cases.{clear_goes, copy_goes, load_goes, store_goes}
use Rattle.laws.specs.Calls.Inner.{Ran}
use Rattle.release.specs.Write.{WorkFinished}
use Rattle.release.proofs.Written.{wrote_ran}
use Rattle.writes.proofs.Found.{found_object}

module _ {h k : Heap} {room l : List ℕ} {a : Answer} (ok : Ready h) where
  -- an empty reference is written to a root
  pub clear_ran : {root to : ℕ} → (root < 64) × (to ≡ root)
      → WorkFinished (cells h) (write_root h to 0) k room l a → Ran (CLEAR root) h room k l a
  unfolding act is_fresh
  clear_ran {root} is w = wrote_ran ok refl (clear_goes h root is.0) (rw is.1 refl) w

  -- what another root holds is written to a root
  pub copy_ran : {to from target i : ℕ} → (to < 64) × (from < 64) × (target ≡ to) × (i ≡ from)
      → WorkFinished (cells h) (write_root h target (root_at h i)) k room l a → Ran (COPY to from) h room k l a
  unfolding act is_fresh
  copy_ran {to} {from} is w = wrote_ran ok refl (copy_goes h to from is.0 is.1) (rw (is.2, is.3) refl) w

  -- what a slot holds is written to a root
  pub load_ran : {to o slot cell target i j : ℕ} → (root_at h o ≡ suc cell) × (kind_of h cell ≡ 1) × (cell < cells h)
      → (to < 64) × (o < 64) × (slot < 8) × (target ≡ to) × (i ≡ cell) × (j ≡ slot)
      → WorkFinished (cells h) (write_root h target (slot_of h i j)) k room l a → Ran (LOAD to o slot) h room k l a
  unfolding act is_fresh
  load_ran {to} {o} {slot} found is w =
      let its = found_object h o found in
      wrote_ran ok refl (load_goes h to o slot is.0 is.1 is.2 its.0 its.1) (rw (its.2, is.3, is.4, is.5) refl) w

  -- what a root holds is written to a slot
  pub store_ran : {o slot from cell at i : ℕ} → (root_at h o ≡ suc cell) × (kind_of h cell ≡ 1) × (cell < cells h)
      → (o < 64) × (slot < 8) × (from < 64) × (at ≡ slot) × (i ≡ from)
      → WorkFinished (cells h) (write_slot h cell at (root_at h i)) k room l a → Ran (STORE o slot from) h room k l a
  unfolding act is_fresh
  store_ran {o} {slot} {from} found is w =
      let its = found_object h o found in
      wrote_ran ok refl (store_goes h o slot from is.0 is.1 is.2 its.0 its.1) (rw (its.2, is.3, is.4) refl) w

-- the STORE that was done is the one that was named
pub store_named : {h k : Heap} {room l : List ℕ} {a : Answer} (o slot from : ℕ) {o' slot' from' : ℕ} → (o' ≡ o) × (slot' ≡ slot) × (from' ≡ from)
    → Ran (STORE o' slot' from') h room k l a → Ran (STORE o slot from) h room k l a
store_named o slot from is ran = rw (is.0, is.1, is.2) at ran
