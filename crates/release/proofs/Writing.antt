-- A count raised, a place written and a reference taken off in the code are the rules' write.
-- Assumes nothing.
use Prim.Native.Nat.{ℕ, zero, suc, ◌+◌, ◌*◌, ◌-◌, ◌≤◌}
use native.Mathlib.Omega.{arith}
use mathlib.Core.List.{List, []}
use mathlib.Core.Bool.{Bool, true}
use mathlib.Core.Path.{◌≡◌, refl, sym, ap, ◌∙◌, subst, subst⁻¹}
use lib.ListN.{length, take, get_or, set}
use Rattle.rules.specs.declared.Answer.{Answer}
use Rattle.rules.specs.Heap.{Heap, cells, tables, queued, root_at, slot_of, set_root, set_slot, Used}
use Rattle.rules.specs.Release.{Work, start, raise, incref, release}
use Rattle.rules.specs.Calls.{answers, write_root, write_slot}
use Rattle.laws.specs.Lists.Tables.{inside}
use Rattle.laws.specs.Sound.But.{SoundBut}
use Rattle.laws.specs.Release.Onto.{onto}
use Rattle.laws.specs.Release.Beside.{beside, release_beside}
use Rattle.laws.specs.Release.Decref.{beside_balanced}
use Rattle.laws.specs.Calls.Write.{count_bound, write_root_ready, write_slot_ready}
use Rattle.release.specs.Release.{Raisable, Releasable, WorkDone}
use Rattle.release.specs.Steps.{SharedOff}
use Rattle.release.specs.Write.{Writable, with_roots, SlotWritable, WorkFinished}
use Rattle.release.proofs.Step.{counting}
use Rattle.release.proofs.Released.{size_left, at_once, done_none}
use Rattle.release.proofs.Whole.{releasable, WorkDoneFrom, whole}

-- ---- a count

-- a reference that is not empty names cell r - 1
pub names_cell : {r : ℕ} → (r ≡ 0 → ⊥) → r ≡ suc (r - 1)
names_cell n = omega arith

pub raised_at : (n : List ℕ) (r : ℕ) → (r ≡ 0 → ⊥) → set n (r - 1) (get_or n (r - 1) 0 + 1) ≡ raise n r
unfolding raise
raised_at n zero not = absurd (not refl)
raised_at n (suc c) not =
    let a : suc c - 1 ≡ c = omega arith in
    let b : get_or n c 0 + 1 ≡ suc (get_or n c 0) = omega arith in
    rw (a, b)

pub raisable : (h : Heap) (r : ℕ) → SoundBut h [] → ((c : ℕ) → r ≡ suc c → Used h c) → Raisable h.count r
raisable h r s used = record {
  range = λ c e. omega (arith, inside h.kind c (used c e), s.fit.count_size);
  fits16 = λ c e. omega (arith, count_bound h [] s c);
}

-- ---- the end of a call

module _ {h : Heap} {r : ℕ} (p : Releasable h 0 r) where
  -- the answer says what the take-off freed and queued
  module _ {h' : Heap} {l l' : List ℕ} {end : ℕ} (d : WorkDone (release (start h) r) h' l 0 l' end) where
    from : WorkDoneFrom (start h) (release (start h) r) h' l 0 l' end
    unfolding start
    from = whole (start h) p refl d

    pub queue_grows : queued h ≤ queued h'
    unfolding start
    queue_grows = omega (arith, from.grown)

    pub took : (refused freed queued₁ cell : ℕ) → refused ≡ 0 → freed ≡ end → queued₁ ≡ queued h' - queued h → cell ≡ 0
        → WorkFinished (cells h) (release (start h) r) h' l l' (answers refused freed queued₁ cell)
    unfolding start
    took refused freed queued₁ cell done is grew none =
        let v : Work = release (start h) r in
        let all : end ≡ length v.freed = from.many refl in
        let of-queued : queued₁ ≡ length v.queued = omega (arith, from.grown) in
        record {
          heap = from.heap;
          listed = λ room. ap (λ (i : ℕ). take i l') (sym all) ∙ from.listed (omega (arith, room, size_left p, ap (λ (g : Heap). cells g) from.heap)) refl;
          answered = λ i. answers (done i) ((is ∙ all) i) (of-queued i) (none i);
        }

  -- others name the cell too: a count fell, and nothing was freed or queued
  pub took_shared : {n l : List ℕ} {off : Bool} → SharedOff h.count r n off → off ≡ true → (refused freed queued₁ cell : ℕ) → refused ≡ 0 → freed ≡ 0 → queued₁ ≡ 0 → cell ≡ 0
      → WorkFinished (cells h) (release (start h) r) (counting h n) l l (answers refused freed queued₁ cell)
  took_shared e came refused freed queued₁ cell done is grew none =
      took (done_none (at_once p e came)) refused freed queued₁ cell done is (omega arith) none

-- ---- a root

-- the heap with the count of r raised, and a root written
abbrev pub rooted : (h : Heap) (n : List ℕ) (i r : ℕ) → Heap
rooted h n i r = tables h.kind h.flags n h.slots (set h.roots i r) h.queue h.control

module _ {h : Heap} {to r : ℕ} (w : Writable h to r) {i : ℕ} (at : i ≡ to) {n : List ℕ} (e : n ≡ raise h.count r) where
  root_is : rooted h n i r ≡ set_root (incref h r) to r
  unfolding incref set_root
  root_is = λ j. rooted h (e j) (at j) r

  -- what the root held is counted and stands nowhere
  pub root_ready : Releasable (rooted h n i r) 0 (root_at h i)
  root_ready =
      subst⁻¹ (λ (j : ℕ). Releasable (rooted h n i r) 0 (root_at h j)) at
      (subst⁻¹ (λ (g : Heap). Releasable g 0 (root_at h to)) root_is
      (releasable (set_root (incref h r) to r) (root_at h to) [] (write_root_ready h to r w.small w.used w.sound)))

  pub root_done : {h' : Heap} {l l' : List ℕ} {a : Answer} → WorkFinished (cells h) (release (start (rooted h n i r)) (root_at h i)) h' l l' a
      → WorkFinished (cells h) (write_root h to r) h' l l' a
  unfolding write_root
  root_done {h'} {l} {l'} {a} f =
      subst (λ (g : Heap). WorkFinished (cells h) (release (start g) (root_at h to)) h' l l' a) root_is
      (subst (λ (j : ℕ). WorkFinished (cells h) (release (start (rooted h n i r)) (root_at h j)) h' l l' a) at f)

-- ---- a slot

-- the heap with the count of r raised, and a slot written
abbrev pub slotted : (h : Heap) (n : List ℕ) (i r : ℕ) → Heap
slotted h n i r = tables h.kind h.flags n (set h.slots i r) h.roots h.queue h.control

-- a take-off reads no roots
other_roots : {h : Heap} {from r : ℕ} (roots : List ℕ) → Releasable h from r → Releasable (with_roots h roots) from r
unfolding start
other_roots {h} roots p =
    let a = p.draining in
    record {
      outside = p.outside;
      done = p.done;
      place = p.place;
      draining = record { slots = a.slots; plain_slots = a.plain_slots; balanced = beside_balanced _ _ _ _ h.slots roots [] [] a.balanced };
    }

module _ {h : Heap} {cell slot r : ℕ} (w : SlotWritable h cell slot r) where
  module _ {i : ℕ} (at : i ≡ 8 * cell + slot) {n : List ℕ} (e : n ≡ raise h.count r) where
    slot_is : (roots : List ℕ) → slotted (with_roots h roots) n i r ≡ set_slot (incref (with_roots h roots) r) (8 * cell + slot) r
    unfolding incref set_slot
    slot_is roots = λ j. slotted (with_roots h roots) (e j) (at j) r

    pub slot_ready : Releasable (slotted h n i r) 0 (get_or h.slots i 0)
    slot_ready =
        let g : Heap = with_roots h w.roots in
        other_roots h.roots
        (subst⁻¹ (λ (j : ℕ). Releasable (slotted g n i r) 0 (get_or h.slots j 0)) at
        (subst⁻¹ (λ (v : Heap). Releasable v 0 (get_or h.slots (8 * cell + slot) 0)) (slot_is w.roots)
        (releasable (set_slot (incref g r) (8 * cell + slot) r) (get_or h.slots (8 * cell + slot) 0) []
        (write_slot_ready g cell slot r w.small w.object w.used w.sound))))

    pub slot_done : {h' : Heap} {l l' : List ℕ} {a : Answer} → WorkFinished (cells h) (release (start (slotted h n i r)) (get_or h.slots i 0)) h' l l' a
        → WorkFinished (cells h) (write_slot h cell slot r) h' l l' a
    unfolding write_slot
    slot_done {h'} {l} {l'} {a} f =
        subst (λ (g : Heap). WorkFinished (cells h) (release (start g) (get_or h.slots (8 * cell + slot) 0)) h' l l' a) (slot_is h.roots)
        (subst (λ (j : ℕ). WorkFinished (cells h) (release (start (slotted h n i r)) (get_or h.slots j 0)) h' l l' a) at f)

-- a slot's write reads no roots: what it does is the same whatever they are
any_slot : (h : Heap) (cell slot r : ℕ) (roots : List ℕ) → write_slot (with_roots h roots) cell slot r ≡ beside roots [] [] (write_slot h cell slot r)
unfolding write_slot incref set_slot start beside onto
any_slot h cell slot r roots = release_beside roots [] [] (start (set_slot (incref h r) (8 * cell + slot) r)) (slot_of h cell slot)

pub slot_any : (h : Heap) (cell slot r : ℕ) {k : Heap} {n : ℕ} {l l' : List ℕ} {a : Answer} → WorkFinished n (write_slot h cell slot r) k l l' a
    → (roots : List ℕ) → WorkFinished n (write_slot (with_roots h roots) cell slot r) (with_roots k roots) l l' a
unfolding beside onto
slot_any h cell slot r {k} {n} {l} {l'} {a} f roots =
    subst⁻¹ (λ (v : Work). WorkFinished n v (with_roots k roots) l l' a) (any_slot h cell slot r roots)
    (record { heap = ap (λ (g : Heap). with_roots g roots) f.heap; listed = f.listed; answered = f.answered })
