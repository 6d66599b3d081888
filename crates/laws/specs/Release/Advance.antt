-- What a take-off leaves as it was, which cells it frees, and how the queue grows.
-- Assumes nothing.
use Prim.Native.Nat.{ℕ, zero, suc, ◌+◌, ◌*◌, ◌≤◌}
use Rattle.std.proofs.Math.Decide.{ℕ_discrete}
use Rattle.std.proofs.Common.{arith, sym, ap, ◌∙◌, length-set, length-append, get_or-set_other, length-take-le}
use mathlib.Core.List.{List, [], ◌∷◌, ◌++◌, map, map-append, append_assoc, append-nil}
use Rattle.std.specs.Prelude.{Bool, ◌≡◌, length, get_or}
use Rattle.std.proofs.Math.Bool.{true, false}
use Rattle.std.proofs.Math.Path.{refl}
use Rattle.std.proofs.lemmas.List.{length-map}
use Rattle.laws.specs.Lists.Tests.{none_of}
use Rattle.rules.specs.Lists.{occ}
use Rattle.rules.specs.Heap.{queued, running, kind_of, count_of, entries, set_count, set_queue, enqueue, wipe}
use Rattle.rules.specs.Release.{Work, decremented, decref, decrefs, lower, refzero, finalizable, with_pending, retire}
use Rattle.laws.specs.Lists.Tables.{set_here}
use Rattle.laws.specs.Lists.Occ.{occ_nil, occ-append, occ_absent, occ_single, occ-length}
use Rattle.laws.specs.Sound.But.{PlainSlots}
use Rattle.laws.specs.Freeing.{wiped_out, wiped_in}
use Rattle.laws.specs.Release.Balance.{Balanced, Advance}
use Rattle.laws.specs.Release.Queue.{push_entries}
use Rattle.laws.specs.Release.Decref.{count_above_zero, unqueued, in_range, decref_balanced}

-- ---- tables that taking references off does not write

pub record Frame (w v : Work) : Type 0 where
  pub kind : v.heap.kind ≡ w.heap.kind
  pub flags : v.heap.flags ≡ w.heap.flags
  pub slots : v.heap.slots ≡ w.heap.slots
  pub roots : v.heap.roots ≡ w.heap.roots
  pub freed : v.freed ≡ w.freed

frame_still : (w : Work) → Frame w w
frame_still w = record { kind = refl; flags = refl; slots = refl; roots = refl; freed = refl }

refzero_frame : (f : Bool) (w : Work) (c : ℕ) → Frame w (refzero f w c)
unfolding refzero set_count enqueue set_queue
refzero_frame true w c = record { kind = refl; flags = refl; slots = refl; roots = refl; freed = refl }
refzero_frame false w c = record { kind = refl; flags = refl; slots = refl; roots = refl; freed = refl }

lower_frame : (w : Work) (c n : ℕ) → Frame w (lower w c n)
unfolding lower set_count
lower_frame w c zero = refzero_frame (finalizable w.heap c) w c
lower_frame w c (suc n) = record { kind = refl; flags = refl; slots = refl; roots = refl; freed = refl }

pub decref_frame : (w : Work) (r : ℕ) → Frame w (decref w r)
unfolding decref
decref_frame w zero = frame_still w
decref_frame w (suc c) = lower_frame w c (decremented (count_of w.heap c))

pub decrefs_frame : (w : Work) (l : List ℕ) → Frame w (decrefs w l)
unfolding decrefs
decrefs_frame w [] = frame_still w
decrefs_frame w (r ∷ l) =
    let a : Frame w (decref w r) = decref_frame w r in
    let b : Frame (decref w r) (decrefs (decref w r) l) = decrefs_frame (decref w r) l in
    record { kind = b.kind ∙ a.kind; flags = b.flags ∙ a.flags; slots = b.slots ∙ a.slots; roots = b.roots ∙ a.roots; freed = b.freed ∙ a.freed }

-- ---- advances

-- no cell is freed
framed : (w v : Work) (joined : List ℕ) → Frame w v → running v.heap ≡ running w.heap
    → entries v.heap ≡ entries w.heap ++ map suc joined → v.queued ≡ w.queued ++ joined → Advance w v [] joined
framed w v joined f r e q = record {
  roots = f.roots;
  running = r;
  size = ap length f.kind;
  kind = λ c z. ap (λ (l : List ℕ). get_or l c 0) f.kind;
  flags = λ c z. ap (λ (l : List ℕ). get_or l c 0) f.flags;
  slots = λ c k s z. ap (λ (l : List ℕ). get_or l (8 * c + k) 0) f.slots;
  used = λ c o. omega (arith, occ_nil c);
  no_kind = λ c o. omega (arith, occ_nil c);
  no_flags = λ c o. omega (arith, occ_nil c);
  no_slots = λ c k s o. omega (arith, occ_nil c);
  once = λ c. omega (arith, occ_nil c);
  freed = f.freed ∙ sym (append-nil w.freed);
  entered = e;
  queued = q;
}

-- a list that grows at its end twice
grown : (x y z a b : List ℕ) → y ≡ x ++ a → z ≡ y ++ b → z ≡ x ++ (a ++ b)
grown x y z a b p q = q ∙ ap (λ (l : List ℕ). l ++ b) p ∙ append_assoc x a b

pub advance_trans : (w v u : Work) (a b i j : List ℕ) → Advance w v a i → Advance v u b j → Advance w u (a ++ b) (i ++ j)
advance_trans w v u a b i j p q =
    let both : (c : ℕ) → occ c (a ++ b) ≡ occ c a + occ c b = λ c. occ-append c a b in
    let apart : (c : ℕ) → 1 ≤ occ c a → occ c b ≡ 0 = λ c o. none_of (occ c b) (λ m. omega (arith, p.no_kind c o, q.used c m)) in
    record {
      roots = q.roots ∙ p.roots;
      running = q.running ∙ p.running;
      size = q.size ∙ p.size;
      kind = λ c z. q.kind c (omega (arith, both c)) ∙ p.kind c (omega (arith, both c));
      flags = λ c z. q.flags c (omega (arith, both c)) ∙ p.flags c (omega (arith, both c));
      slots = λ c k s z. q.slots c k s (omega (arith, both c)) ∙ p.slots c k s (omega (arith, both c));
      used = λ c o. elim (ℕ_discrete (occ c a) 0) [
        | yes e ↦ omega (arith, p.kind c e, q.used c (omega (arith, both c)))
        | no n ↦ p.used c (omega arith)
      ];
      no_kind = λ c o. elim (ℕ_discrete (occ c a) 0) [
        | yes e ↦ q.no_kind c (omega (arith, both c))
        | no n ↦ q.kind c (apart c (omega arith)) ∙ p.no_kind c (omega arith)
      ];
      no_flags = λ c o. elim (ℕ_discrete (occ c a) 0) [
        | yes e ↦ q.no_flags c (omega (arith, both c))
        | no n ↦ q.flags c (apart c (omega arith)) ∙ p.no_flags c (omega arith)
      ];
      no_slots = λ c k s o. elim (ℕ_discrete (occ c a) 0) [
        | yes e ↦ q.no_slots c k s (omega (arith, both c))
        | no n ↦ q.slots c k s (apart c (omega arith)) ∙ p.no_slots c k s (omega arith)
      ];
      once = λ c. elim (ℕ_discrete (occ c a) 0) [
        | yes e ↦ omega (arith, both c, q.once c)
        | no n ↦ omega (arith, both c, p.once c, apart c (omega arith))
      ];
      freed = grown w.freed v.freed u.freed a b p.freed q.freed;
      entered = grown (entries w.heap) (entries v.heap) (entries u.heap) (map suc i) (map suc j) p.entered q.entered
          ∙ ap (λ (l : List ℕ). entries w.heap ++ l) (sym (map-append suc i j));
      queued = grown w.queued v.queued u.queued i j p.queued q.queued;
    }

-- only the work list changes, which no advance reads
pub pending_advance : (w : Work) (l : List ℕ) → Advance w (with_pending w l) [] []
unfolding with_pending
pending_advance w l = framed w (with_pending w l) [] (record { kind = refl; flags = refl; slots = refl; roots = refl; freed = refl }) refl (sym (append-nil _)) (sym (append-nil _))

pub idle_advance : (w : Work) → Advance w w [] []
unfolding with_pending
idle_advance w = pending_advance w w.pending

-- the cells that join the queue are found by what decref does
abbrev pub Advanced : Work → Work → List ℕ → Type 0
Advanced w v cells = (joined : List ℕ) × Advance w v cells joined

module _ (w : Work) (serving done held : List ℕ) (c : ℕ) (b : Balanced w serving done (suc c ∷ held)) where
  refzero_advance : (f : Bool) → count_of w.heap c ≡ 1 → Advanced w (refzero f w c) []
  unfolding refzero set_count enqueue set_queue
  refzero_advance true e = (
    c ∷ [],
    framed w (refzero true w c) (c ∷ []) (refzero_frame true w c)
        (get_or-set_other w.heap.control 0 1 (suc (queued w.heap)) 0 (λ z. omega arith))
        (push_entries _ _ _ _ b.queue b.fit.queue_size c (unqueued w serving done held c b e) (in_range w serving done held c b) b.fit.control_size)
        refl,
  )
  refzero_advance false e = ([], framed w (refzero false w c) [] (refzero_frame false w c) refl (sym (append-nil _)) (sym (append-nil _)))

  lower_advance : (n : ℕ) → count_of w.heap c ≡ n → Advanced w (lower w c (decremented n)) []
  unfolding decremented lower set_count
  lower_advance zero e = absurd (omega (arith, count_above_zero w serving done held c b))
  lower_advance (suc zero) e = refzero_advance (finalizable w.heap c) e
  lower_advance (suc (suc n)) e = ([], framed w (lower w c (suc n)) [] (lower_frame w c (suc n)) refl (sym (append-nil _)) (sym (append-nil _)))

pub decref_advance : (w : Work) (serving done : List ℕ) (r : ℕ) (held : List ℕ) → Balanced w serving done (r ∷ held) → Advanced w (decref w r) []
unfolding decref
decref_advance w serving done zero held b = ([], idle_advance w)
decref_advance w serving done (suc c) held b = lower_advance w serving done held c b (count_of w.heap c) refl

pub decrefs_advance : (w : Work) (serving done l held : List ℕ) → Balanced w serving done (l ++ held) → Advanced w (decrefs w l) []
unfolding decrefs
decrefs_advance w serving done [] held b = ([], idle_advance w)
decrefs_advance w serving done (r ∷ l) held b =
    let p : Advanced w (decref w r) [] = decref_advance w serving done r (l ++ held) b in
    let q : Advanced (decref w r) (decrefs (decref w r) l) [] = decrefs_advance (decref w r) serving done l held (decref_balanced w serving done r (l ++ held) b) in
    (p.0 ++ q.0, advance_trans w (decref w r) (decrefs (decref w r) l) [] [] p.0 q.0 p.1 q.1)

-- a used cell becomes all zeros
pub retire_advance : (w : Work) (c : ℕ) → PlainSlots w.heap.kind w.heap.slots → 1 ≤ kind_of w.heap c → Advance w (retire w c) (c ∷ []) []
unfolding retire wipe
retire_advance w c empty u =
    record {
      roots = refl;
      running = refl;
      size = length-set w.heap.kind c 0;
      kind = λ d z. get_or-set_other w.heap.kind c d 0 0 (occ_absent d c z);
      flags = λ d z. get_or-set_other w.heap.flags c d 0 0 (occ_absent d c z);
      slots = λ d k s z. wiped_out (kind_of w.heap c) w.heap.slots c d k s (occ_absent d c z);
      used = λ d o. rw (occ_single d c o) u;
      no_kind = λ d o. rw (occ_single d c o) (set_here w.heap.kind c);
      no_flags = λ d o. rw (occ_single d c o) (set_here w.heap.flags c);
      no_slots = λ d k s o. rw (occ_single d c o) (wiped_in w.heap c empty k s);
      once = λ d. occ-length d (c ∷ []);
      freed = refl;
      entered = sym (append-nil _);
      queued = sym (append-nil _);
    }

-- the queue grows by what joins it
pub advance_queued : (w v : Work) (cells joined : List ℕ) → Advance w v cells joined
    → queued w.heap ≤ length w.heap.queue → queued v.heap ≤ length v.heap.queue → queued v.heap ≡ queued w.heap + length joined
advance_queued w v cells joined a before after = omega (
  arith,
  ap length a.entered,
  length-append (entries w.heap) (map suc joined),
  length-map joined suc,
  length-take-le (queued w.heap) w.heap.queue before,
  length-take-le (queued v.heap) v.heap.queue after,
)
