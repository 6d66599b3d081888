-- Taking one reference off keeps the balance, and never meets a count of zero.
-- Assumes nothing.
use Prim.Native.Nat.{ℕ, zero, suc, ◌+◌, ◌≤◌, ◌<◌}
use Rattle.std.proofs.Math.Decide.{ℕ_discrete}
use Rattle.std.proofs.Common.{arith, sym, ◌∙◌, eqb-true, length-set, length-append}
use mathlib.Core.List.{List, [], ◌∷◌, ◌++◌}
use Rattle.std.specs.Prelude.{Bool, ◌≢◌, ◌≡◌, eqb, set}
use Rattle.std.proofs.Math.Bool.{true, false}
use Rattle.std.proofs.Math.Path.{refl, ap}
use Rattle.std.proofs.Math.ListN.{length, get_or}
use Rattle.std.proofs.Math.Seq.{get_or-set_same, get_or-set_other}
use Rattle.laws.specs.Sound.But.{refit}
use Rattle.rules.specs.Lists.{occ}
use Rattle.rules.specs.Heap.{Heap, tables, queued, kind_of, flags_of, count_of, entries, set_count, set_queue, enqueue}
use Rattle.rules.specs.Release.{Work, decremented, decref, decrefs, lower, refzero, finalizable}
use Rattle.laws.specs.Lists.Tests.{none_of, and_left, and_right}
use Rattle.laws.specs.Lists.Tables.{by_cell, inside, set_here, set_same}
use Rattle.laws.specs.Lists.Occ.{occ_three, occ_here, occ_there, occ_snoc_here, occ_snoc_there}
use Rattle.laws.specs.Lists.Pigeonhole.{pigeonhole, once_cons, below_cons}
use Rattle.laws.specs.Release.Balance.{Balanced}
use Rattle.laws.specs.Release.Queue.{room, push_entries, push_ok}

-- ---- numbers and lists

-- ---- a reference is due

-- an object with flags 1
pub finalizable_kind : (h : Heap) (c : ℕ) → finalizable h c ≡ true → kind_of h c ≡ 1
unfolding finalizable
finalizable_kind h c e = eqb-true (kind_of h c) 1 (and_left (eqb (kind_of h c) 1) (eqb (flags_of h c) 1) e)

pub finalizable_flags : (h : Heap) (c : ℕ) → finalizable h c ≡ true → flags_of h c ≡ 1
unfolding finalizable
finalizable_flags h c e = eqb-true (flags_of h c) 1 (and_right (eqb (kind_of h c) 1) (eqb (flags_of h c) 1) e)

-- every listed cell is in range
pub listed_below : (w : Work) (serving done held : List ℕ) → Balanced w serving done held
    → (c : ℕ) → 1 ≤ occ c (done ++ (serving ++ w.pending)) → c < length w.heap.kind
listed_below w serving done held b c o = elim (ℕ_discrete (occ c done) 0) [
  | yes e ↦ inside w.heap.kind c (b.used c (omega (arith, occ_three c done serving w.pending)))
  | no n ↦ b.listed c (omega arith)
]

module _ (w : Work) (serving done held : List ℕ) (c : ℕ) (b : Balanced w serving done (suc c ∷ held)) where
  -- no `decref` meets a count of zero: the reference that is due is counted
  pub count_above_zero : 1 ≤ count_of w.heap c
  count_above_zero = omega (arith, b.balance c, occ_here (suc c) held)

  pub in_range : c < length w.heap.kind
  in_range = omega (arith, inside w.heap.count c count_above_zero)

  pub is_used : 1 ≤ kind_of w.heap c
  is_used = elim (ℕ_discrete (kind_of w.heap c) 0) [ yes e ↦ omega (arith, b.free c e, count_above_zero) | no n ↦ omega arith ]

  -- it is not among the cells freed, nor on the work list, where counts are 0
  unfreed : occ c done ≡ 0
  unfreed = none_of (occ c done) (λ o. omega (arith, b.gone c o, is_used))

  unlisted : occ c serving + occ c w.pending ≡ 0
  unlisted = none_of (occ c serving + occ c w.pending) (λ o. omega (arith, b.dead c o, count_above_zero))

  -- so the work list has room for it
  pub work_room : length done + length (serving ++ w.pending) < length w.heap.kind
  work_room =
      let l : List ℕ = done ++ (serving ++ w.pending) in
      let parts : (d : ℕ) → occ d l ≡ occ d done + (occ d serving + occ d w.pending) = λ d. occ_three d done serving w.pending in
      let fits : length (c ∷ l) ≤ length w.heap.kind = pigeonhole (length w.heap.kind) (c ∷ l)
      (once_cons c l (omega (arith, parts c, unfreed, unlisted)) (λ d. omega (arith, parts d, b.distinct d)))
      (below_cons (length w.heap.kind) c l in_range (listed_below w serving done (suc c ∷ held) b)) in
      omega (arith, length-append done (serving ++ w.pending))

  -- a cell whose last reference comes off is in no queue, so the queue has room
  module _ (last : count_of w.heap c ≡ 1) where
    pub unqueued : occ (suc c) (entries w.heap) ≡ 0
    unqueued = omega (arith, b.balance c, occ_here (suc c) held)

    pub queue_room : queued w.heap < length w.heap.kind
    queue_room = room _ _ _ _ b.queue b.fit.queue_size c unqueued in_range

-- ---- what the balance reads

-- only how often each reference is held matters
pub reheld : (w : Work) (serving done held held' : List ℕ) → ((c : ℕ) → occ (suc c) held ≡ occ (suc c) held')
    → Balanced w serving done held → Balanced w serving done held'
reheld w serving done held held' same b = record {
  fit = b.fit;
  queue = b.queue;
  free = b.free;
  balance = λ c. omega (arith, b.balance c, same c);
  waits = b.waits;
  used = b.used;
  dead = b.dead;
  gone = b.gone;
  listed = b.listed;
  distinct = b.distinct;
}

-- the balance reads neither slots and roots nor what has been freed and queued
pub beside_balanced : (w : Work) (serving done held : List ℕ) (slots roots freed queued : List ℕ) → Balanced w serving done held
    → Balanced (record {
      heap = tables w.heap.kind w.heap.flags w.heap.count slots roots w.heap.queue w.heap.control;
      pending = w.pending;
      freed = freed;
      queued = queued;
    }) serving done held
beside_balanced w serving done held slots roots freed queued b = record {
  fit = b.fit;
  queue = b.queue;
  free = b.free;
  balance = b.balance;
  waits = b.waits;
  used = b.used;
  dead = b.dead;
  gone = b.gone;
  listed = b.listed;
  distinct = b.distinct;
}

-- ---- a reference comes off

module _ (w : Work) (serving done held : List ℕ) (c : ℕ) (b : Balanced w serving done (suc c ∷ held)) where
  -- a reference comes off a cell that keeps others
  kept : (n : ℕ) → count_of w.heap c ≡ suc (suc n) → Balanced (lower w c (suc n)) serving done held
  unfolding lower set_count
  kept n e =
      let l : List ℕ = w.heap.count in
      let at : get_or (set l c (suc n)) c 0 ≡ suc n = get_or-set_same l c (suc n) 0 (inside l c (omega arith)) in
      let off : (d : ℕ) → d ≢ c → get_or (set l c (suc n)) d 0 ≡ get_or l d 0 = λ d m. get_or-set_other l c d (suc n) 0 m in
      record {
        fit = refit refl refl (length-set l c (suc n)) refl refl b.fit;
        queue = b.queue;
        free = by_cell c (λ z. omega (arith, is_used w serving done held c b)) (λ d m z. off d m ∙ b.free d z);
        balance = by_cell c
            (omega (arith, b.balance c, occ_here (suc c) held))
            (λ d m. omega (arith, off d m, b.balance d, occ_there (suc d) (suc c) held (λ z. m (omega arith))));
        waits = by_cell c (λ u z. omega arith) (λ d m u z. b.waits d u (sym (off d m) ∙ z));
        used = b.used;
        dead = by_cell c (λ o. omega (arith, b.dead c o)) (λ d m o. off d m ∙ b.dead d o);
        gone = b.gone;
        listed = b.listed;
        distinct = b.distinct;
      }

  -- the last reference comes off a cell that has no finalizer to run, which joins the work list
  joins : count_of w.heap c ≡ 1 → Balanced (refzero false w c) serving done held
  unfolding refzero set_count
  joins e =
      let l : List ℕ = w.heap.count in
      let off : (d : ℕ) → d ≢ c → get_or (set l c 0) d 0 ≡ get_or l d 0 = λ d m. get_or-set_other l c d 0 0 m in
      let new : occ c (w.pending ++ (c ∷ [])) ≡ suc (occ c w.pending) = occ_snoc_here c w.pending in
      let old : (d : ℕ) → d ≢ c → occ d (w.pending ++ (c ∷ [])) ≡ occ d w.pending = λ d m. occ_snoc_there d c w.pending m in
      record {
        fit = refit refl refl (length-set l c 0) refl refl b.fit;
        queue = b.queue;
        free = by_cell c (λ z. set_here l c) (λ d m z. off d m ∙ b.free d z);
        balance = by_cell c
            (omega (arith, set_here l c, b.balance c, occ_here (suc c) held))
            (λ d m. omega (arith, off d m, b.balance d, occ_there (suc d) (suc c) held (λ z. m (omega arith))));
        waits = by_cell c (λ u z. omega arith) (λ d m u z. omega (arith, old d m, b.waits d u (sym (off d m) ∙ z)));
        used = by_cell c (λ o. is_used w serving done held c b) (λ d m o. b.used d (omega (arith, old d m)));
        dead = by_cell c (λ o. set_here l c) (λ d m o. off d m ∙ b.dead d (omega (arith, old d m)));
        gone = b.gone;
        listed = b.listed;
        distinct = by_cell c
            (omega (arith, unfreed w serving done held c b, unlisted w serving done held c b))
            (λ d m. omega (arith, old d m, b.distinct d));
      }

  -- the last reference comes off an object with a finalizer, which joins the queue
  enqueues : count_of w.heap c ≡ 1 → finalizable w.heap c ≡ true → Balanced (refzero true w c) serving done held
  unfolding refzero set_count enqueue set_queue
  enqueues e f =
      let q : ℕ = queued w.heap in
      let es : List ℕ = entries w.heap in
      let none : occ (suc c) es ≡ 0 = unqueued w serving done held c b e in
      let range : c < length w.heap.kind = in_range w serving done held c b in
      let at : (d : ℕ) → get_or (set w.heap.count c 1) d 0 ≡ count_of w.heap d = set_same w.heap.count c 1 e in
      let pushed = push_entries _ _ _ _ b.queue b.fit.queue_size c none range b.fit.control_size in
      record {
        fit = refit refl refl (length-set w.heap.count c 1) (length-set w.heap.queue q (suc c)) (length-set w.heap.control 0 (suc q)) b.fit;
        queue = push_ok _ _ _ _ b.queue b.fit.queue_size c none range b.fit.control_size (finalizable_kind w.heap c f) (finalizable_flags w.heap c f);
        free = λ d z. at d ∙ b.free d z;
        balance = by_cell c
            (omega (arith, at c, b.balance c, ap (occ (suc c)) pushed, occ_snoc_here (suc c) es, occ_here (suc c) held))
            (λ d m. omega (arith, at d, b.balance d, ap (occ (suc d)) pushed, occ_snoc_there (suc d) (suc c) es (λ z. m (omega arith)), occ_there (suc d) (suc c) held (λ z. m (omega arith))));
        waits = λ d u z. b.waits d u (sym (at d) ∙ z);
        used = b.used;
        dead = λ d o. at d ∙ b.dead d o;
        gone = b.gone;
        listed = b.listed;
        distinct = b.distinct;
      }

  lower_balanced : (n : ℕ) → count_of w.heap c ≡ n → Balanced (lower w c (decremented n)) serving done held
  unfolding lower decremented
  lower_balanced zero e = absurd (omega (arith, count_above_zero w serving done held c b))
  lower_balanced (suc zero) e = go (finalizable w.heap c) refl
    where
      go : (f : Bool) → finalizable w.heap c ≡ f → Balanced (refzero f w c) serving done held
      go true f = enqueues e f
      go false f = joins e
  lower_balanced (suc (suc n)) e = kept n e

-- a reference comes off, and several one after another
pub decref_balanced : (w : Work) (serving done : List ℕ) (r : ℕ) (held : List ℕ)
    → Balanced w serving done (r ∷ held) → Balanced (decref w r) serving done held
unfolding decref
decref_balanced w serving done zero held b = reheld w serving done (0 ∷ held) held (λ c. occ_there (suc c) 0 held (λ z. omega arith)) b
decref_balanced w serving done (suc c) held b = lower_balanced w serving done held c b (count_of w.heap c) refl

pub decrefs_balanced : (w : Work) (serving done l held : List ℕ)
    → Balanced w serving done (l ++ held) → Balanced (decrefs w l) serving done held
unfolding decrefs
decrefs_balanced w serving done [] held b = b
decrefs_balanced w serving done (r ∷ l) held b = decrefs_balanced (decref w r) serving done l held (decref_balanced w serving done r (l ++ held) b)

-- references that are empty come off nothing
pub decrefs_none : (w : Work) (l : List ℕ) → ((i : ℕ) → i < length l → get_or l i 0 ≡ 0) → decrefs w l ≡ w
unfolding decrefs decref
decrefs_none w [] none = refl
decrefs_none w (zero ∷ l) none = decrefs_none w l (λ i b. none (suc i) (omega arith))
decrefs_none w (suc r ∷ l) none = absurd (omega (arith, none 0 (omega arith)))
