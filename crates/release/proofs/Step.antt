-- What each way through `decref_shared`, `decref` and `refzero` leaves is what the rules say.
-- Assumes nothing.
use Prim.Native.Nat.{ℕ, suc, ◌+◌, ◌-◌, ◌≤◌, ◌<◌}
use native.Mathlib.Numerals.{add-one}
use native.Mathlib.Omega.{arith}
use mathlib.Core.List.{List, [], ◌∷◌, ◌++◌, append-nil}
use mathlib.Core.Bool.{Bool, true, false, true≢false}
use mathlib.Core.Path.{◌≡◌, refl, sym, ap, ◌∙◌, subst⁻¹}
use borrow.Author.Tests.{eq-eqb, ne_eqb}
use lib.Dec.{eqb}
use lib.ListN.{length, get_or, take, set}
use lib.Seq.{set-get_or, take-suc-set}
use Rattle.rules.specs.Heap.{Heap, tables, queued, kind_of, flags_of, count_of, set_count, set_queue, enqueue}
use Rattle.rules.specs.Release.{Work, decremented, decref, decrefs, lower, refzero, finalizable}
use Rattle.laws.specs.Lists.Tests.{and_join, and_no}
use Rattle.laws.specs.Release.Advance.{Frame, decref_frame, decrefs_frame}
use Rattle.laws.specs.Release.Onto.{onto, decref_onto, decrefs_onto}
use Rattle.release.specs.Steps.{working, SharedOff, CameOff}

-- ---- taking off doesn't read the work list, nor what was queued: both may stand before

abbrev pub behind : (pending queue : List ℕ) → Work → Work
behind p q v = record { heap = v.heap; pending = p ++ v.pending; freed = v.freed; queued = q ++ v.queued }

-- v's slots and roots stay, so that they need not be put back
framed : (p q : List ℕ) (w v : Work) → Frame w v → onto w.heap.slots w.heap.roots p [] q v ≡ behind p q v
unfolding onto
framed p q w v fr = λ i. record {
  heap = tables v.heap.kind v.heap.flags v.heap.count (sym fr.slots i) (sym fr.roots i) v.heap.queue v.heap.control;
  pending = p ++ v.pending;
  freed = v.freed;
  queued = q ++ v.queued;
}

pub decref_behind : (p q : List ℕ) (w : Work) (r : ℕ) → decref (behind p q w) r ≡ behind p q (decref w r)
unfolding onto
decref_behind p q w r = decref_onto w.heap.slots w.heap.roots p [] q w r ∙ framed p q w (decref w r) (decref_frame w r)

pub decrefs_behind : (p q : List ℕ) (w : Work) (l : List ℕ) → decrefs (behind p q w) l ≡ behind p q (decrefs w l)
unfolding onto
decrefs_behind p q w l = decrefs_onto w.heap.slots w.heap.roots p [] q w l ∙ framed p q w (decrefs w l) (decrefs_frame w l)

-- ---- which cells are freed

module _ (h : Heap) (c : ℕ) where
  pub plain_kind : (kind_of h c ≡ 1 → ⊥) → finalizable h c ≡ false
  unfolding finalizable
  plain_kind other = rw (ne_eqb (kind_of h c) 1 other)

  pub plain_flags_lem : (flags_of h c ≡ 1 → ⊥) → finalizable h c ≡ false
  unfolding finalizable
  plain_flags_lem other = and_no (eqb (kind_of h c) 1) (ne_eqb (flags_of h c) 1 other)

-- ---- one reference, where others share its cell

-- the tables with other counts
abbrev pub counting : Heap → List ℕ → Heap
counting h n = tables h.kind h.flags n h.slots h.roots h.queue h.control

-- the rules' step, by the count that it meets
decref_at : (h : Heap) (r m : ℕ) → (r ≡ 0 → ⊥) → count_of h (r - 1) ≡ m → decref (working h []) r ≡ lower (working h []) (r - 1) (decremented m)
unfolding decref
decref_at h r m some e =
    let whole : r ≡ suc (r - 1) = omega arith in
    ap (decref (working h [])) whole ∙ ap (λ (x : ℕ). lower (working h []) (r - 1) (decremented x)) e

-- an empty reference
pub shared_none : {n : List ℕ} {r : ℕ} → r ≡ 0 → SharedOff n r n true
unfolding decref
shared_none {n} e = record {
  shared = λ came k f s ro q t. ap (decref (working (tables k f n s ro q t) [])) e;
  kept = λ left. absurd (true≢false left);
  some = λ left. absurd (true≢false left);
  last = λ left. absurd (true≢false left);
}

-- the count stays above zero: the number `written` at `at` is one less
pub shared_many : {n : List ℕ} {r at written : ℕ} → (r ≡ 0 → ⊥) → 1 < get_or n (r - 1) 0 → at ≡ r - 1 → written ≡ get_or n (r - 1) 0 - 1
    → SharedOff n r (set n at written) true
unfolding decremented lower set_count
shared_many {n} {r} {at} {written} some h place is = record {
  shared = λ came k f s ro q t.
      let x : ℕ = get_or n (r - 1) 0 in
      let met : x ≡ suc (suc (x - 2)) = omega arith in
      let less : suc (x - 2) ≡ written = omega arith in
      decref_at (tables k f n s ro q t) r (suc (suc (x - 2))) some met ∙ (λ i. working (tables k f (set n (sym place i) (less i)) s ro q t) []);
  kept = λ left. absurd (true≢false left);
  some = λ left. absurd (true≢false left);
  last = λ left. absurd (true≢false left);
}

-- it is the last
pub shared_last : {n : List ℕ} {r : ℕ} → (r ≡ 0 → ⊥) → get_or n (r - 1) 0 ≤ 1 → SharedOff n r n false
shared_last some few = record { shared = λ came. absurd (true≢false (sym came)); kept = λ left. refl; some = λ left. omega arith; last = λ left. few }

pub shared_is : (h : Heap) {n : List ℕ} {r : ℕ} {off : Bool} → SharedOff h.count r n off → off ≡ true → decref (working h []) r ≡ working (counting h n) []
shared_is h s came = s.shared came h.kind h.flags h.slots h.roots h.queue h.control

-- ---- what came off, and the work list

-- where nothing is to come off
pub came_off_nothing : (h : Heap) (before : List ℕ) (tail : ℕ) → tail ≤ length before → CameOff (working h []) h before tail before tail
came_off_nothing h before tail bound = record { heap = refl; listed = sym (append-nil _); bound = bound }

-- others share the cell
pub came_off_shared : (h : Heap) {n before : List ℕ} {tail r : ℕ} {off : Bool} → tail ≤ length before → SharedOff h.count r n off → off ≡ true
    → CameOff (decref (working h []) r) (counting h n) before tail before tail
came_off_shared h {n} {before} {tail} bound s came =
    subst⁻¹ (λ (w : Work). CameOff w (counting h n) before tail before tail) (shared_is h s came) (came_off_nothing (counting h n) before tail bound)

module _ (h : Heap) (before : List ℕ) (tail : ℕ) (bound : tail ≤ length before) (r : ℕ) (some : r ≡ 0 → ⊥) where
  -- it falls to zero
  pub at_zero_lem : (h' : Heap) (after : List ℕ) (next : ℕ) → count_of h (r - 1) ≡ 1
      → CameOff (refzero (finalizable h (r - 1)) (working h []) (r - 1)) h' before tail after next
      → CameOff (decref (working h []) r) h' before tail after next
  unfolding decremented lower
  at_zero_lem h' after next e l = subst⁻¹ (λ (w : Work). CameOff w h' before tail after next) (decref_at h r 1 some e) l

  -- the cell joins the queue
  pub queues : count_of h (r - 1) ≡ 1 → kind_of h (r - 1) ≡ 1 → flags_of h (r - 1) ≡ 1
      → CameOff (refzero (finalizable h (r - 1)) (working h []) (r - 1))
      (tables h.kind h.flags h.count h.slots h.roots (set h.queue (queued h) r) (set h.control 0 (queued h + 1))) before tail before tail
  unfolding refzero finalizable set_count enqueue set_queue
  queues last kind flags =
      let yes : finalizable h (r - 1) ≡ true = and_join (eq-eqb (kind_of h (r - 1)) 1 kind) (eq-eqb (flags_of h (r - 1)) 1 flags) in
      let whole : r ≡ suc (r - 1) = omega arith in
      let still : h.count ≡ set h.count (r - 1) 1 = sym (ap (set h.count (r - 1)) (sym last) ∙ set-get_or h.count (r - 1) 0) in
      let after : Heap = tables h.kind h.flags h.count h.slots h.roots (set h.queue (queued h) r) (set h.control 0 (queued h + 1)) in
      subst⁻¹ (λ (b : Bool). CameOff (refzero b (working h []) (r - 1)) after before tail before tail) yes
      (record {
        heap = λ i. tables h.kind h.flags (still i) h.slots h.roots (set h.queue (queued h) (whole i)) (set h.control 0 (add-one (queued h) i));
        listed = sym (append-nil _);
        bound = bound;
      })

  -- the cell joins the work list: the entry `written` at the list's end is its reference
  pub lists : (written next : ℕ) → written ≡ r → next ≡ tail + 1 → finalizable h (r - 1) ≡ false → tail < length before
      → CameOff (refzero (finalizable h (r - 1)) (working h []) (r - 1)) (counting h (set h.count (r - 1) 0)) before tail (set before tail written) next
  unfolding refzero set_count
  lists written next is further plain room =
      let named : written ≡ suc (r - 1) = omega arith in
      let end : next ≡ suc tail = omega arith in
      subst⁻¹ (λ (b : Bool). CameOff (refzero b (working h []) (r - 1)) (counting h (set h.count (r - 1) 0)) before tail (set before tail written) next) plain
      (record {
        heap = refl;
        listed =
            ap (λ (i : ℕ). take i (set before tail written)) end ∙ take-suc-set before tail written room
            ∙ ap (λ (x : ℕ). take tail before ++ (x ∷ [])) named;
        bound = omega arith;
      })
