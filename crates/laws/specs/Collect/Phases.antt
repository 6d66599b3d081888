-- The first and the last phase of COLLECT, table by table: queueing and rescuing.
-- Assumes nothing.
use Rattle.std.specs.Prelude.{ℕ, suc, ◌+◌, ◌≤◌, ◌<◌, List, [], ◌∷◌, ◌++◌, map, ◌≡◌, refl, length, get_or, set}
use Rattle.std.proofs.Common.{arith, append_assoc, append-nil, sym, ◌∙◌, ap, length-set, get_or-set_same, get_or-set_other, take-suc-set}
use Rattle.std.proofs.Math.Decide.{ℕ_discrete}
use Rattle.std.proofs.Math.Logic.{by_cases}
use Rattle.rules.specs.Lists.{occ}
use Rattle.rules.specs.Heap.{Heap, queued, running, flags_of, count_of, entries, set_count, set_flags, set_queue, enqueue}
use Rattle.rules.specs.Collect.{enqueue_all, rescue_all}
use Rattle.laws.specs.Lists.Tables.{by_cell}
use Rattle.laws.specs.Lists.Occ.{occ_nil, occ_here, occ_cons, occ_one, occ_other, occ_absent, occ_single}

-- ---- a count that rises by one

pub raise_at : (l : List ℕ) (i : ℕ) → i < length l → (c : ℕ) → get_or (set l i (suc (get_or l i 0))) c 0 ≡ get_or l c 0 + occ c (i ∷ [])
raise_at l i b =
    by_cell i (omega (arith, get_or-set_same l i (suc (get_or l i 0)) 0 b, occ_one i i refl))
    (λ c n. omega (arith, get_or-set_other l i c (suc (get_or l i 0)) 0 n, occ_other c i n))

-- ---- cells join the queue

pub record Enqueued (h after : Heap) (l : List ℕ) : Type 0 where
  pub kind : after.kind ≡ h.kind
  pub flags : after.flags ≡ h.flags
  pub slots : after.slots ≡ h.slots
  pub roots : after.roots ≡ h.roots
  pub count_length : length after.count ≡ length h.count
  pub queue_length : length after.queue ≡ length h.queue
  pub control_length : length after.control ≡ length h.control
  pub count : (x : ℕ) → count_of after x ≡ count_of h x + occ x l
  pub queued_is : queued after ≡ queued h + length l
  pub running_is : running after ≡ running h
  pub entries_is : entries after ≡ entries h ++ map suc l
  pub rest : (i : ℕ) → queued h + length l ≤ i → get_or after.queue i 0 ≡ get_or h.queue i 0

enqueued_none : (h : Heap) → Enqueued h h []
enqueued_none h = record {
  kind = refl;
  flags = refl;
  slots = refl;
  roots = refl;
  count_length = refl;
  queue_length = refl;
  control_length = refl;
  count = λ x. omega (arith, occ_nil x);
  queued_is = omega arith;
  running_is = refl;
  entries_is = sym (append-nil (entries h));
  rest = λ i b. refl;
}

-- the heap with one cell more in the queue
enqueue_one : Heap → ℕ → Heap
enqueue_one h c = set_count (enqueue h c) c (suc (count_of h c))

enqueued_one : (h : Heap) (c : ℕ) → length h.control ≡ 2 → queued h < length h.queue → c < length h.count → Enqueued h (enqueue_one h c) (c ∷ [])
unfolding enqueue_one set_count enqueue set_queue
enqueued_one h c two room inside =
    let q : get_or (set h.control 0 (suc (queued h))) 0 0 ≡ suc (queued h) = get_or-set_same h.control 0 _ 0 (omega arith) in
    record {
      kind = refl;
      flags = refl;
      slots = refl;
      roots = refl;
      count_length = length-set h.count c _;
      queue_length = length-set h.queue _ _;
      control_length = length-set h.control 0 _;
      count = raise_at h.count c inside;
      queued_is = omega arith;
      running_is = get_or-set_other h.control 0 1 _ 0 (omega arith);
      entries_is = rw q (take-suc-set h.queue (queued h) (suc c) room);
      rest = λ i b. get_or-set_other h.queue (queued h) i (suc c) 0 (omega arith);
    }

enqueued_then : (h g k : Heap) (c : ℕ) (l : List ℕ) → Enqueued h g (c ∷ []) → Enqueued g k l → Enqueued h k (c ∷ l)
enqueued_then h g k c l a b = record {
  kind = b.kind ∙ a.kind;
  flags = b.flags ∙ a.flags;
  slots = b.slots ∙ a.slots;
  roots = b.roots ∙ a.roots;
  count_length = b.count_length ∙ a.count_length;
  queue_length = b.queue_length ∙ a.queue_length;
  control_length = b.control_length ∙ a.control_length;
  count = λ x. omega (arith, a.count x, b.count x, occ_cons x c l);
  queued_is = omega (arith, a.queued_is, b.queued_is);
  running_is = b.running_is ∙ a.running_is;
  entries_is = b.entries_is ∙ ap {B = List ℕ} (λ e. e ++ map suc l) a.entries_is ∙ append_assoc (entries h) (suc c ∷ []) (map suc l);
  rest = λ i r. b.rest i (omega (arith, a.queued_is)) ∙ a.rest i (omega arith);
}

pub enqueued : (h : Heap) (l : List ℕ) → length h.control ≡ 2 → queued h + length l ≤ length h.queue
    → ((x : ℕ) → 1 ≤ occ x l → x < length h.count) → Enqueued h (enqueue_all h l) l
unfolding enqueue_all enqueue_one
enqueued h [] two room inside = enqueued_none h
enqueued h (c ∷ l) two room inside =
    let one : Enqueued h (enqueue_one h c) (c ∷ []) = enqueued_one h c two (omega arith) (inside c (omega (arith, occ_here c l))) in
    enqueued_then h (enqueue_one h c) _ c l one
    (enqueued (enqueue_one h c) l (one.control_length ∙ two) (omega (arith, one.queued_is, one.queue_length))
    (λ x b. omega (arith, one.count_length, inside x (omega (arith, occ_cons x c l)))))

-- ---- the rescued

pub record Rescued (h after : Heap) (l : List ℕ) : Type 0 where
  pub kind : after.kind ≡ h.kind
  pub count : after.count ≡ h.count
  pub slots : after.slots ≡ h.slots
  pub roots : after.roots ≡ h.roots
  pub queue : after.queue ≡ h.queue
  pub control : after.control ≡ h.control
  pub flags_length : length after.flags ≡ length h.flags
  pub flags_out : (x : ℕ) → occ x l ≡ 0 → flags_of after x ≡ flags_of h x
  pub flags_in : (x : ℕ) → 1 ≤ occ x l → flags_of after x ≡ 1

pub rescued_all : (h : Heap) (l : List ℕ) → ((x : ℕ) → 1 ≤ occ x l → x < length h.flags) → Rescued h (rescue_all h l) l
unfolding rescue_all set_flags
rescued_all h [] inside = record {
  kind = refl;
  count = refl;
  slots = refl;
  roots = refl;
  queue = refl;
  control = refl;
  flags_length = refl;
  flags_out = λ x o. refl;
  flags_in = λ x i. absurd (omega (arith, occ_nil x));
}
rescued_all h (c ∷ l) inside =
    let sum : (x : ℕ) → occ x (c ∷ l) ≡ occ x (c ∷ []) + occ x l = λ x. occ_cons x c l in
    let b : Rescued (set_flags h c 1) (rescue_all (set_flags h c 1) l) l =
    rescued_all (set_flags h c 1) l (λ x i. omega (arith, length-set h.flags c 1, inside x (omega (arith, sum x)))) in
    record {
      kind = b.kind;
      count = b.count;
      slots = b.slots;
      roots = b.roots;
      queue = b.queue;
      control = b.control;
      flags_length = b.flags_length ∙ length-set h.flags c 1;
      flags_out = λ x o. b.flags_out x (omega (arith, sum x)) ∙ get_or-set_other h.flags c x 1 0 (occ_absent x c (omega (arith, sum x)));
      flags_in = λ x i. by_cases (ℕ_discrete (occ x l) 0)
          (λ z.
          let e : x ≡ c = occ_single x c (omega (arith, sum x)) in
          b.flags_out x z ∙ (rw e (get_or-set_same h.flags c 1 0 (inside c (omega (arith, occ_here c l))))))
          (λ n. b.flags_in x (omega arith));
    }
