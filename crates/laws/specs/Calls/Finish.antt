-- FINISH before its two take-offs: sound but for what the running root held, and for the bump of the queue's head.
-- Assumes nothing.
use Prim.Native.Nat.{ℕ, zero, suc, ◌+◌, ◌-◌, ◌≤◌, ◌<◌}
use Rattle.std.proofs.Common.{le_of_suc-le-suc, sym, ◌∙◌, ap, length-append, get_or-set_same, get_or-set_other, length-take-le, get_or-take}
use native.Mathlib.Omega.{arith}
use Rattle.std.specs.Prelude.{List, [], ◌∷◌, ◌++◌, ◌≡◌, ◌≢◌, length, get_or, set, take, drop}
use Rattle.std.proofs.Math.Path.{refl}
use Rattle.std.proofs.Math.ListN.{length-set}
use Rattle.std.proofs.lemmas.List.{take-append-le}
use Rattle.rules.specs.Lists.{occ}
use Rattle.rules.specs.Heap.{Heap, queued, running, kind_of, flags_of, root_at, queue_at, entries, set_root, set_flags, set_queue, set_running}
use Rattle.rules.specs.Calls.{leave_queue}
use Rattle.laws.specs.Lists.Tables.{by_cell, inside}
use Rattle.laws.specs.Lists.Occ.{occ_nil, occ_cons, occ_one, occ_other, occ_at, occ-set}
use Rattle.laws.specs.Sound.But.{refit, Shaped, QueueOk, SoundBut}

-- ---- a table without its first entry

snoc_zero : (l : List ℕ) (i : ℕ) → get_or (l ++ (0 ∷ [])) i 0 ≡ get_or l i 0
snoc_zero [] zero = refl
snoc_zero [] (suc i) = refl
snoc_zero (x ∷ l) zero = refl
snoc_zero (x ∷ l) (suc i) = snoc_zero l i

-- every entry moves up by one
pub pop_at : (l : List ℕ) (i : ℕ) → get_or (drop 1 l ++ (0 ∷ [])) i 0 ≡ get_or l (suc i) 0
pop_at [] zero = refl
pop_at [] (suc i) = refl
pop_at (x ∷ l) i = snoc_zero l i

pub pop_front : (l : List ℕ) (n : ℕ) → n < length l → take (suc n) l ≡ get_or l 0 0 ∷ take n (drop 1 l ++ (0 ∷ []))
pop_front [] n b = absurd (omega arith)
pop_front (x ∷ l) n b = ap {B = List ℕ} (λ k. x ∷ k) (sym (take-append-le n l (0 ∷ []) (le_of_suc-le-suc b)))

pub pop_length : (l : List ℕ) → 1 ≤ length l → length (drop 1 l ++ (0 ∷ [])) ≡ length l
pop_length [] b = absurd (omega arith)
pop_length (x ∷ l) b = length-append l (0 ∷ []) ∙ omega arith

-- ---- the head of a queue that isn't empty

module _ (h : Heap) (s : SoundBut h []) (some : 1 ≤ queued h) where
  head_entry : get_or (entries h) 0 0 ≡ queue_at h 0
  head_entry = get_or-take (queued h) h.queue 0 0 some

  head_inside : 0 < length (entries h)
  head_inside = omega (arith, length-take-le (queued h) h.queue (omega (arith, s.queue.within, s.fit.queue_size)))

  -- it is a cell's number plus 1
  pub head_cell : queue_at h 0 ≡ suc (queue_at h 0 - 1)
  head_cell = nonzero (queue_at h 0) (λ z. omega (arith, s.queue.none_empty, occ_at 0 (entries h) 0 head_inside (head_entry ∙ z)))
    where
      nonzero : (n : ℕ) → n ≢ 0 → n ≡ suc (n - 1)
      nonzero n z = omega arith

  head_queued : 1 ≤ occ (suc (queue_at h 0 - 1)) (entries h)
  head_queued = occ_at (suc (queue_at h 0 - 1)) (entries h) 0 head_inside (head_entry ∙ head_cell)

  pub head_object : kind_of h (queue_at h 0 - 1) ≡ 1
  head_object = s.queue.object (queue_at h 0 - 1) head_queued

module _ (h : Heap) (s : SoundBut h []) (busy : running h ≢ 0) where
  some : 1 ≤ queued h
  some = s.runs (omega arith)

  abbrev head : ℕ
  head = queue_at h 0 - 1

  abbrev left : ℕ
  left = queued h - 1

  abbrev queue' : List ℕ
  queue' = drop 1 h.queue ++ (0 ∷ [])

  abbrev control' : List ℕ
  control' = set (set h.control 0 left) 1 0

  left_is : get_or control' 0 0 ≡ left
  left_is = get_or-set_other (set h.control 0 left) 1 0 0 0 (λ e. omega arith) ∙ get_or-set_same h.control 0 left 0 (omega (arith, s.fit.control_size))

  none_running : get_or control' 1 0 ≡ 0
  none_running = get_or-set_same (set h.control 0 left) 1 0 0 (omega (arith, s.fit.control_size, length-set h.control 0 left))

  -- the old entries are the head and the new ones
  pub entries_pop : entries h ≡ queue_at h 0 ∷ take (get_or control' 0 0) queue'
  entries_pop =
      let n : queued h ≡ suc left = omega (arith, some) in
      rw left_is (ap (λ (m : ℕ). take m h.queue) n ∙ pop_front h.queue left (omega (arith, some, s.queue.within, s.fit.queue_size)))

  pop_occ : (x : ℕ) → occ x (entries h) ≡ occ x (queue_at h 0 ∷ []) + occ x (take (get_or control' 0 0) queue')
  pop_occ x = ap (occ x) entries_pop ∙ occ_cons x (queue_at h 0) (take (get_or control' 0 0) queue')

  -- the head stands there no more
  head_gone : occ (suc head) (take (get_or control' 0 0) queue') ≡ 0
  head_gone = omega (arith, pop_occ (suc head), s.queue.once (suc head), occ_one (suc head) (queue_at h 0) (sym (head_cell h s some)))

  flags_off : (d : ℕ) → d ≢ head → get_or (set h.flags head 3) d 0 ≡ flags_of h d
  flags_off d n = get_or-set_other h.flags head d 3 0 n

  flags_at : get_or (set h.flags head 3) head 0 ≡ 3
  flags_at = get_or-set_same h.flags head 3 0 (omega (arith, s.fit.flags_size, inside h.kind head (omega (arith, head_object h s some))))

  leave_shaped : Shaped h.kind (set h.flags head 3) h.slots
  leave_shaped = record {
    kinds = s.shaped.kinds;
    free_flags = by_cell head (λ z. absurd (omega (arith, head_object h s some))) (λ d n z. flags_off d n ∙ s.shaped.free_flags d z);
    free_slots = s.shaped.free_slots;
    plain_flags = by_cell head (λ g. absurd (omega (arith, head_object h s some))) (λ d n g. flags_off d n ∙ s.shaped.plain_flags d g);
    plain_slots = s.shaped.plain_slots;
    object_flags = by_cell head (λ e. omega (arith, flags_at)) (λ d n e. omega (arith, flags_off d n, s.shaped.object_flags d e));
    object_not_two = by_cell head (λ e t. omega (arith, flags_at)) (λ d n e t. s.shaped.object_not_two d e (sym (flags_off d n) ∙ t));
  }

  leave_queue_lem : QueueOk h.kind (set h.flags head 3) queue' control'
  leave_queue_lem = record {
    within = omega (arith, left_is, s.queue.within);
    once = λ x. omega (arith, pop_occ x, s.queue.once x);
    none_empty = omega (arith, pop_occ 0, s.queue.none_empty);
    object = λ c o. s.queue.object c (omega (arith, pop_occ (suc c)));
    wanting = by_cell head (λ o. absurd (omega (arith, head_gone))) (λ c n o. flags_off c n ∙ s.queue.wanting c (omega (arith, pop_occ (suc c))));
    rest = λ i b. pop_at h.queue i ∙ s.queue.rest (suc i) (omega (arith, left_is));
  }

  pub leave_sound : SoundBut (leave_queue h) (root_at h (running h - 1) ∷ queue_at h 0 ∷ [])
  unfolding leave_queue set_root set_running set_flags set_queue
  leave_sound =
      let i : ℕ = running h - 1 in
      let root : (x : ℕ) → occ x (set h.roots i 0) + occ x (root_at h i ∷ []) ≡ occ x h.roots + occ x (0 ∷ []) =
      λ x. occ-set x h.roots i 0 (omega (arith, s.roots, s.running_most)) in
      record {
        fit = refit refl (length-set h.flags head 3) refl (pop_length h.queue (omega (arith, s.fit.queue_size, s.fit.some)))
            (length-set (set h.control 0 left) 1 0 ∙ length-set h.control 0 left) s.fit;
        slots = s.slots;
        roots = length-set h.roots i 0 ∙ s.roots;
        shaped = leave_shaped;
        free_count = s.free_count;
        queue = leave_queue_lem;
        running_most = omega (arith, none_running);
        runs = λ o. absurd (omega (arith, none_running));
        counted = λ c. omega (
          arith,
          s.counted c,
          root (suc c),
          occ_other (suc c) 0 (λ e. omega arith),
          pop_occ (suc c),
          occ_cons (suc c) (root_at h i) (queue_at h 0 ∷ []),
          occ_nil (suc c),
        );
        positive = s.positive;
      }
