-- The parts of COLLECT together, on a sound heap: what each part asks holds where it is called, and the whole is the rules' COLLECT.
-- Assumes nothing.
use Prim.Native.Nat.{ℕ, suc, ◌+◌, ◌≤◌, ◌<◌}
use native.Mathlib.Omega.{arith}
use native.Mathlib.Decide.{dec_lt}
use mathlib.Core.List.{List, [], ◌++◌, map}
use mathlib.Core.Bool.{cond}
use mathlib.Core.Path.{◌≡◌, refl, sym, ap, subst, subst⁻¹, ◌∙◌}
use lib.ListN.{length, get_or, take, drop, replicate}
use lib.Seq.{take-add, drop_at, length-take-le}
use lib.Dec.{eqb}
use Rattle.rules.specs.Lists.{select}
use Rattle.rules.specs.Heap.{Heap, tables, cells, queued, entries}
use Rattle.rules.specs.Release.{finalizable}
use Rattle.rules.specs.Marking.{mark_from}
use Rattle.rules.specs.Words.{marked_of, bits_of, marks_of}
use Rattle.rules.specs.Collect.{unlink_all, reached_marks, unreached_finalizable, kept_marks, garbage, enqueue_all, wipe_all, rescue_all, rescued, swept, collect}
use Rattle.rules.specs.Calls.{answers}
use Rattle.laws.specs.Marking.Marks.{Within, Slots, ClosedMarks}
use Rattle.laws.specs.Marking.Closure.{zeros_settled}
use Rattle.laws.specs.Reach.Marked.{slots_within, roots_within, entries_within, reached_length, reached_settled}
use Rattle.laws.specs.Sound.But.{PlainSlots, SoundBut}
use Rattle.laws.specs.Sound.Facts.{facts_ready, largest_count}
use Rattle.laws.specs.Collect.Phases.{Enqueued, enqueued}
use Rattle.laws.specs.Collect.Unlinking.{Lowered, held_by, SlotsCovered, unlinked}
use Rattle.laws.specs.Collect.Wiping.{wiped}
use Rattle.laws.specs.Collect.Live.{due_only, due_once, due_room, due_within, kept_bits, live_used}
use Rattle.laws.specs.Collect.Left.{unlink_covered}
use Rattle.laws.specs.Words.Cells.{get_or-bits_of}
use Rattle.laws.specs.Words.Marks.{WordsFor, HasMarks, marks_zeros, words_zeros, marked_bits, marked_spare}
use Rattle.marking.specs.Steps.{cells_of}
use Rattle.sweep.specs.Phases.{is_rescued, due_of, garbage_of, rescued_of, MarkedUsed, Scratch, QueueRoom, Queued, Same, Freed, Decided, MarkedQueued, rounds, Swept, Collected}

-- sixteen words for the used cells, and twice as many for the marks, all zero
pub start_scratch : (n : ℕ) (used marks : List ℕ) → 0 < n → n ≤ 1024 → length used ≡ 16 → marks ≡ replicate 32 0 → Scratch n used marks
start_scratch n used marks some few size zeros = rw zeros (record {
  room = omega arith;
  same = sym size;
  few = omega arith;
  unmarked = record { fits = words_zeros n 32 some few; marks = marks_zeros n 32 };
})

-- the number of cells, by the slots table
pub cells_of_lem : {h : Heap} → SoundBut h [] → cells_of h.slots ≡ cells h
cells_of_lem s = omega (arith, s.slots)

-- all that are due joined the queue
all_joined : {h g : Heap} → SoundBut h [] → g ≡ enqueue_all h (unreached_finalizable h) → Enqueued h g (unreached_finalizable h)
all_joined {h} s e =
    subst⁻¹ (λ (k : Heap). Enqueued h k (unreached_finalizable h)) e
    (enqueued h (unreached_finalizable h) s.fit.control_size (omega (arith, due_room h s, s.fit.queue_size))
    (λ x b. omega (arith, s.fit.count_size, (due_only h s x b).range)))

module _ {h : Heap} (s : SoundBut h []) where
  by_slots : (P : ℕ → Type 0) → P (cells h) → P (cells_of h.slots)
  by_slots P p = subst P (sym (cells_of_lem s)) p

  sized : Slots h.slots (cells h)
  sized = record { fit = s.slots; within = slots_within h s }

  -- ---- the first marking

  module _ {words : List ℕ} (p : HasMarks (cells h) words (replicate (cells h) 0)) where
    pub first_asks : Slots h.slots (cells_of h.slots) × (WordsFor (cells_of h.slots) words × (Within (cells_of h.slots) h.roots
        × (Within (cells_of h.slots) (entries h) × ClosedMarks h.slots (marks_of (cells_of h.slots) words))))
    first_asks =
        by_slots (λ (n : ℕ). Slots h.slots n × (WordsFor n words × (Within n h.roots × (Within n (entries h) × ClosedMarks h.slots (marks_of n words)))))
        (sized, (p.fits, (roots_within h s, (entries_within h s, rw p.marks (zeros_settled (cells h))))))

    pub first_marks : {words₁ : List ℕ} → HasMarks (cells_of h.slots) words₁ (mark_from h.slots (marks_of (cells_of h.slots) words) (h.roots ++ entries h))
        → HasMarks (cells h) words₁ (reached_marks h)
    unfolding reached_marks
    first_marks {words₁} q =
        let q₁ : HasMarks (cells h) words₁ (mark_from h.slots (marks_of (cells h) words) (h.roots ++ entries h)) =
        subst (λ (n : ℕ). HasMarks n words₁ (mark_from h.slots (marks_of n words) (h.roots ++ entries h))) (cells_of_lem s) q in
        record { fits = q₁.fits; marks = q₁.marks ∙ ap (λ (x : List ℕ). mark_from h.slots x (h.roots ++ entries h)) p.marks }

  -- ---- the queueing

  module _ {words₁ : List ℕ} (p₁ : HasMarks (cells h) words₁ (reached_marks h)) where
    reached_words : bits_of (cells h) (marked_of words₁) ≡ reached_marks h
    reached_words = marked_bits (cells h) words₁ (reached_marks h) p₁ (reached_settled h s).bits

    due_is : due_of h.kind h.flags (bits_of (cells h) (marked_of words₁)) ≡ unreached_finalizable h
    unfolding unreached_finalizable finalizable
    due_is = ap (λ (m : List ℕ). due_of h.kind h.flags m) reached_words

    pub queue_asks : QueueRoom h (due_of h.kind h.flags (bits_of (cells h) (marked_of words₁)))
    queue_asks = subst (QueueRoom h) (sym due_is) (record {
      fit = s.fit;
      room = due_room h s;
      small = λ x. omega (arith, largest_count (facts_ready s) x, due_once h s x);
    })

    -- ---- the second marking

    module _ {g : Heap} {r : ℕ} (a : Queued h (due_of h.kind h.flags (bits_of (cells h) (marked_of words₁))) g r) where
      joined : g ≡ enqueue_all h (unreached_finalizable h)
      joined = a.heap ∙ ap (enqueue_all h) due_is

      as_many_joined : r ≡ length (unreached_finalizable h)
      as_many_joined = a.many ∙ ap length due_is

      phase : Enqueued h g (unreached_finalizable h)
      phase = all_joined s joined

      -- the new entries lie behind the old ones
      pub queue_end : queued h + r ≤ length g.queue
      queue_end = omega (arith, due_room h s, as_many_joined, s.fit.queue_size, phase.queue_length)

      new : take r (drop (queued h) g.queue) ≡ map suc (unreached_finalizable h)
      new =
          let old : length (entries h) ≡ queued h = length-take-le (queued h) h.queue (omega (arith, due_room h s, s.fit.queue_size)) in
          let front : length (take (queued h) g.queue) ≡ queued h = length-take-le (queued h) g.queue (omega (arith, queue_end)) in
          let end : queued h + r ≡ queued g = omega (arith, as_many_joined, phase.queued_is) in
          let all : take (queued h + r) g.queue ≡ entries h ++ map suc (unreached_finalizable h) = ap (λ (x : ℕ). take x g.queue) end ∙ phase.entries_is in
          sym (drop_at (take (queued h) g.queue) (take r (drop (queued h) g.queue)) (queued h) front)
          ∙ ap (drop (queued h)) (sym (take-add (queued h) r g.queue) ∙ all)
          ∙ drop_at (entries h) (map suc (unreached_finalizable h)) (queued h) old

      -- the part of the queue behind those that were waiting; the slots are what they were
      module _ {waiting many : ℕ} (at : waiting ≡ queued h) (all : many ≡ r) where
        part : take many (drop waiting g.queue) ≡ map suc (unreached_finalizable h)
        part = (λ i. take (all i) (drop (at i) g.queue)) ∙ new

        pub second_asks : Slots g.slots (cells_of g.slots) × (WordsFor (cells_of g.slots) words₁
            × (Within (cells_of g.slots) (take many (drop waiting g.queue)) × ClosedMarks g.slots (marks_of (cells_of g.slots) words₁)))
        second_asks =
            let new-within : Within (cells h) (take many (drop waiting g.queue)) = rw (part, ← reached_length h s) (due_within h s) in
            let asks = by_slots
            (λ (n : ℕ). Slots h.slots n × (WordsFor n words₁ × (Within n (take many (drop waiting g.queue)) × ClosedMarks h.slots (marks_of n words₁))))
            (sized, (p₁.fits, (new-within, rw p₁.marks (reached_settled h s)))) in
            subst⁻¹
            (λ (x : List ℕ). Slots x (cells_of x)
            × (WordsFor (cells_of x) words₁ × (Within (cells_of x) (take many (drop waiting g.queue)) × ClosedMarks x (marks_of (cells_of x) words₁))))
            phase.slots asks

        pub second_kept : {words₂ : List ℕ}
            → HasMarks (cells_of g.slots) words₂ (mark_from g.slots (marks_of (cells_of g.slots) words₁) (take many (drop waiting g.queue)))
            → MarkedQueued h g words₂ r
        unfolding kept_marks
        second_kept {words₂} q =
            let table : List ℕ = take many (drop waiting g.queue) in
            let q₀ : HasMarks (cells_of h.slots) words₂ (mark_from h.slots (marks_of (cells_of h.slots) words₁) table) =
            subst (λ (x : List ℕ). HasMarks (cells_of x) words₂ (mark_from x (marks_of (cells_of x) words₁) table)) phase.slots q in
            let q₁ : HasMarks (cells h) words₂ (mark_from h.slots (marks_of (cells h) words₁) table) =
            subst (λ (n : ℕ). HasMarks n words₂ (mark_from h.slots (marks_of n words₁) table)) (cells_of_lem s) q₀ in
            record {
              heap = joined;
              marked = record { fits = q₁.fits; marks = q₁.marks ∙ (λ i. mark_from h.slots (p₁.marks i) (part i)) };
              many = as_many_joined;
            }

-- ---- both rounds

-- the first round leaves kinds and sizes
module _ (h : Heap) {g : Heap} (m : List ℕ) (a : g ≡ unlink_all h (garbage_of h.kind m)) (v : SlotsCovered h.slots h.count (garbage_of h.kind m)) where
  lowered : Lowered h g (λ x. held_by h.slots (garbage_of h.kind m) (suc x))
  lowered = subst⁻¹ (λ (k : Heap). Lowered h k (λ x. held_by h.slots (garbage_of h.kind m) (suc x))) a (unlinked h (garbage_of h.kind m) v)

  pub unlinked_kind : g.kind ≡ h.kind
  unlinked_kind = lowered.kind

  pub unlinked_sizes : Same h → Same g
  unlinked_sizes s = record {
    flags_size = omega (arith, s.flags_size, ap length lowered.kind, ap length lowered.flags);
    count_size = omega (arith, s.count_size, ap length lowered.kind, lowered.count_length);
    slots_size = omega (arith, s.slots_size, ap length lowered.kind, ap length lowered.slots);
  }

pub rounds_join : {h g k : Heap} (marked : List ℕ) {before after : List ℕ} {r : ℕ} → g ≡ unlink_all h (garbage_of h.kind (bits_of (cells h) marked)) → g.kind ≡ h.kind
    → Freed g (garbage_of g.kind (bits_of (cells g) marked)) k before 0 after r → Swept h (bits_of (cells h) marked) k before after r
rounds_join {h} {g} marked a same b =
    let dead : garbage_of g.kind (bits_of (cells g) marked) ≡ garbage_of h.kind (bits_of (cells h) marked) = ap (λ (x : List ℕ). garbage_of x (bits_of (length x) marked)) same in
    record {
      heap = b.heap ∙ (λ i. wipe_all (a i) (dead i));
      many = omega (arith, b.many, ap length dead);
      listed = λ room. b.listed (omega (arith, room, ap length same)) ∙ ap (map suc) dead;
    }

-- no round where there is no garbage
pub rounds_none : {h : Heap} {m list : List ℕ} → garbage_of h.kind m ≡ [] → Swept h m h list list 0
unfolding wipe_all unlink_all
rounds_none e = record { heap = rw e refl; many = rw e refl; listed = λ fits. rw e refl }

-- ---- COLLECT

module _ {h g : Heap} (s : SoundBut h []) {words : List ℕ} {r : ℕ} (a : MarkedQueued h g words r) where
  joined_as : Enqueued h g (unreached_finalizable h)
  joined_as = all_joined s a.heap

  -- the queueing leaves the kinds and the number of cells
  pub kind_left : g.kind ≡ h.kind
  kind_left = joined_as.kind

  pub as_many : cells g ≡ cells h
  as_many = ap length kind_left

  -- the words' bits are the plain marks
  marks_h : bits_of (cells h) (marked_of words) ≡ kept_marks h
  marks_h = marked_bits (cells h) words (kept_marks h) a.marked (kept_bits h s)

  kept_words : bits_of (cells g) (marked_of words) ≡ kept_marks h
  kept_words = ap (λ (n : ℕ). bits_of n (marked_of words)) as_many ∙ marks_h

  dead : garbage_of g.kind (bits_of (cells g) (marked_of words)) ≡ garbage h
  unfolding garbage
  dead = λ i. garbage_of (kind_left i) (kept_words i)

  -- only used cells are marked
  pub marked_used : MarkedUsed g.kind (marked_of words)
  marked_used c one = elim (dec_lt c (cells h)) [
    | yes l ↦ rw kind_left (live_used h s c (omega (arith, sym (get_or-bits_of (cells h) (marked_of words) c l) ∙ ap (λ (m : List ℕ). get_or m c 0) marks_h)))
    | no f ↦ absurd (omega (arith, marked_spare (cells h) words (kept_marks h) a.marked c (omega arith)))
  ]

  -- what the sweep asks, after the queueing: above all, that the references of the garbage are counted
  pub sizes_left : Same g
  sizes_left = record {
    flags_size = ap length joined_as.flags ∙ s.fit.flags_size ∙ sym as_many;
    count_size = joined_as.count_length ∙ s.fit.count_size ∙ sym as_many;
    slots_size = omega (arith, ap length joined_as.slots, s.slots, as_many);
  }

  pub plain_left : PlainSlots g.kind g.slots
  plain_left = rw (kind_left, joined_as.slots) s.shaped.plain_slots

  pub garbage_covered : SlotsCovered g.slots g.count (garbage_of g.kind (bits_of (cells g) (marked_of words)))
  garbage_covered = rw dead (subst⁻¹ (λ (k : Heap). SlotsCovered k.slots k.count (garbage h)) a.heap (unlink_covered h s))

  module _ {k : Heap} {room list : List ℕ} {freed : ℕ} (b : Swept g (bits_of (cells g) (marked_of words)) k room list freed) where
    pub size : length k.flags ≡ cells h
    size =
        let dead : List ℕ = garbage_of g.kind (bits_of (cells g) (marked_of words)) in
        ap (λ (x : Heap). length x.flags) b.heap ∙ (wiped (unlink_all g dead) dead).flags_length ∙ ap length (unlinked g dead garbage_covered).flags
        ∙ sizes_left.flags_size ∙ as_many

    swept_is : k ≡ swept h
    unfolding swept
    swept_is = b.heap ∙ (λ i. rounds (a.heap i) (dead i))

    rescued_are : cond (eqb (queued h) 0) (rescued_of k.flags (bits_of (length k.flags) (marked_of words))) [] ≡ rescued h
    unfolding rescued
    rescued_are =
        let m : bits_of (length k.flags) (marked_of words) ≡ kept_marks h = ap (λ (n : ℕ). bits_of n (marked_of words)) (size ∙ sym as_many) ∙ kept_words in
        λ i. cond (eqb (queued h) 0) (select (is_rescued (swept_is i).flags (m i)) (size i)) []

    pub collect_joins : {waiting refused counted joined cell : ℕ} {f : List ℕ} → Decided waiting k.flags (bits_of (length k.flags) (marked_of words)) f
        → waiting ≡ queued h → refused ≡ 0 → counted ≡ freed → joined ≡ r → cell ≡ 0
        → Collected h room (tables k.kind f k.count k.slots k.roots k.queue k.control) list (answers refused counted joined cell)
    unfolding collect
    collect_joins x e done all_counted all-joined none =
        let saved = ap (λ (w : ℕ). cond (eqb w 0) (rescued_of k.flags (bits_of (length k.flags) (marked_of words))) []) e ∙ rescued_are in
        let many = b.many ∙ ap length dead in record {
          heap = x.restored.heap k.kind k.count k.slots k.roots k.queue k.control ∙ (λ i. rescue_all (swept_is i) (saved i));
          listed = λ fits. ap (λ (i : ℕ). take i list) (sym many) ∙ b.listed (omega (arith, fits, as_many)) ∙ ap (map suc) dead;
          answered = λ i. answers (done i) ((all_counted ∙ many) i) ((all-joined ∙ a.many) i) (none i);
        }
