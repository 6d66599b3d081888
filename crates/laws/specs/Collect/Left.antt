-- What COLLECT leaves in each table, its four phases one after the other: the garbage is all zeros, and any other cell keeps what it has but for its
-- count and, where it was rescued, its flags.
-- Assumes nothing.
use Rattle.std.specs.Prelude.{ℕ, suc, ◌+◌, ◌*◌, ◌≤◌, ◌<◌, Bool, ◌&&◌, ◌≡◌, ◌⊎◌, eqb}
use Rattle.std.proofs.Common.{arith, sym, ◌∙◌, inl, inr}
use Rattle.std.proofs.Math.Decide.{ℕ_discrete, dec_lt}
use mathlib.Core.List.{List, [], ◌++◌, map}
use Rattle.std.proofs.Math.Path.{ap}
use Rattle.std.proofs.Math.Logic.{by_cases}
use Rattle.std.proofs.Math.ListN.{length, get_or}
use borrow.Author.Tests.{eqb-true, eq-eqb}
use Rattle.rules.specs.Lists.{occ, select}
use Rattle.rules.specs.Heap.{Heap, cells, queued, running, kind_of, flags_of, count_of, slot_of, queue_at, entries, Used}
use Rattle.rules.specs.Collect.{unreached_finalizable, kept_marks, garbage, enqueue_all, unlink_all, wipe_all, rescued, rescue_all, swept, collect}
use Rattle.laws.specs.Lists.Tables.{inside}
use Rattle.laws.specs.Lists.Tests.{and_join, and_left}
use Rattle.laws.specs.Lists.Select.{cond_only, select_only, select_in}
use Rattle.laws.specs.Sound.But.{SoundBut}
use Rattle.laws.specs.Collect.Phases.{Enqueued, enqueued, Rescued, rescued_all}
use Rattle.laws.specs.Collect.Unlinking.{Lowered, held_by, SlotsCovered, unlinked}
use Rattle.laws.specs.Collect.Wiping.{Wiped, wiped, Emptied, emptied_all}
use Rattle.laws.specs.Collect.Live.{due_only, due_room, kept_bits, garbage_only, garbage_once, out_live}

-- from the tables h to those that COLLECT leaves
pub record Left (h after : Heap) : Type 0 where
  -- the garbage
  pub kind_in : (c : ℕ) → 1 ≤ occ c (garbage h) → kind_of after c ≡ 0
  pub flags_in : (c : ℕ) → 1 ≤ occ c (garbage h) → flags_of after c ≡ 0
  pub count_in : (c : ℕ) → 1 ≤ occ c (garbage h) → count_of after c ≡ 0
  pub slots_in : (c i : ℕ) → i < 8 → 1 ≤ occ c (garbage h) → slot_of after c i ≡ 0
  -- any other cell: its flags stay, or it was rescued, as each with flags 3 is if the queue was empty when COLLECT began
  pub kind_out : (c : ℕ) → occ c (garbage h) ≡ 0 → kind_of after c ≡ kind_of h c
  pub flags_out : (c : ℕ) → occ c (garbage h) ≡ 0 → (flags_of after c ≡ flags_of h c) ⊎ ((flags_of h c ≡ 3) × (flags_of after c ≡ 1) × (queued h ≡ 0))
  pub rescued_in : (c : ℕ) → occ c (garbage h) ≡ 0 → flags_of h c ≡ 3 → queued h ≡ 0 → flags_of after c ≡ 1
  pub count_out : (c : ℕ) → occ c (garbage h) ≡ 0 → count_of after c + held_by h.slots (garbage h) (suc c) ≡ count_of h c + occ c (unreached_finalizable h)
  pub slots_out : (c i : ℕ) → i < 8 → occ c (garbage h) ≡ 0 → slot_of after c i ≡ slot_of h c i
  pub slots_occ : (c : ℕ) → occ (suc c) after.slots + held_by h.slots (garbage h) (suc c) ≡ occ (suc c) h.slots
  -- the roots, and the queue, which those that are due have joined
  pub roots : after.roots ≡ h.roots
  pub queued_is : queued after ≡ queued h + length (unreached_finalizable h)
  pub running_is : running after ≡ running h
  pub entries_are : entries after ≡ entries h ++ map suc (unreached_finalizable h)
  pub rest : (i : ℕ) → queued after ≤ i → queue_at after i ≡ queue_at h i
  -- every table is as long as it was
  pub kind_length : length after.kind ≡ length h.kind
  pub flags_length : length after.flags ≡ length h.flags
  pub count_length : length after.count ≡ length h.count
  pub slots_length : length after.slots ≡ length h.slots
  pub queue_length : length after.queue ≡ length h.queue
  pub control_length : length after.control ≡ length h.control

module _ (h : Heap) (s : SoundBut h []) where
  -- ---- the four phases, one after the other

  abbrev due : List ℕ
  due = unreached_finalizable h

  abbrev dead : List ℕ
  dead = garbage h

  abbrev h1 : Heap
  h1 = enqueue_all h due

  abbrev h2 : Heap
  h2 = unlink_all h1 dead

  abbrev saved : List ℕ
  saved = rescued h

  abbrev final : Heap
  final = rescue_all (swept h) saved

  phase1 : Enqueued h h1 due
  phase1 = enqueued h due s.fit.control_size (omega (arith, due_room h s, s.fit.queue_size)) (λ x b. omega (arith, s.fit.count_size, (due_only h s x b).range))

  -- Every reference that the first round takes off is counted, and after the queueing all the more. It is read off what a wiping of the same cells
  -- would do with the slots, since no cell is among the garbage twice.
  unlink_counted : SlotsCovered h.slots h.count dead
  unlink_counted =
      let gone : Emptied h (wipe_all h dead) dead =
      emptied_all h dead s.shaped.plain_slots (garbage_once h s) (λ x b. omega (arith, s.slots, inside h.kind x (garbage_only h s x b).0)) in
      record { covers = λ c. omega (arith, gone.slots_occ c, s.counted c) }

  pub unlink_covered : SlotsCovered h1.slots h1.count dead
  unlink_covered = record { covers = λ c. omega (arith, unlink_counted.covers c, phase1.count c, ap (λ (l : List ℕ). held_by l dead (suc c)) phase1.slots) }

  phase2 : Lowered h1 h2 (λ x. held_by h1.slots dead (suc x))
  phase2 = unlinked h1 dead unlink_covered

  slots2 : h2.slots ≡ h.slots
  slots2 = phase2.slots ∙ phase1.slots

  kind2 : h2.kind ≡ h.kind
  kind2 = phase2.kind ∙ phase1.kind

  flags2 : h2.flags ≡ h.flags
  flags2 = phase2.flags ∙ phase1.flags

  phase3 : Wiped h2 (swept h) dead
  unfolding swept
  phase3 = wiped h2 dead

  phase3_slots : Emptied h2 (swept h) dead
  unfolding swept
  phase3_slots =
      emptied_all h2 dead (rw (kind2, slots2) s.shaped.plain_slots) (garbage_once h s)
      (λ x b. omega (arith, ap length slots2, s.slots, inside h.kind x (garbage_only h s x b).0))

  abbrev is_rescued : ℕ → Bool
  is_rescued c = eqb (flags_of (swept h) c) 3 && eqb (get_or (kept_marks h) c 0) 1

  saved_only : (c : ℕ) → 1 ≤ occ c saved → (c < cells h) × (flags_of (swept h) c ≡ 3) × (queued h ≡ 0)
  unfolding rescued
  saved_only c b =
      let some = cond_only (eqb (queued h) 0) (select is_rescued (cells h)) c b in
      let r = select_only is_rescued (cells h) c some.1 in
      (r.0, eqb-true _ 3 (and_left (eqb (flags_of (swept h) c) 3) _ r.1), eqb-true _ 0 some.0)

  phase4 : Rescued (swept h) final saved
  phase4 = rescued_all (swept h) saved
      (λ x b. omega (arith, (saved_only x b).0, phase3.flags_length, ap length flags2, s.fit.flags_size))

  -- ---- the tables after them

  kind_out_lem : (c : ℕ) → occ c dead ≡ 0 → kind_of final c ≡ kind_of h c
  kind_out_lem c o = ap (λ (l : List ℕ). get_or l c 0) phase4.kind ∙ phase3.kind_out c o ∙ ap (λ (l : List ℕ). get_or l c 0) kind2

  kind_in_lem : (c : ℕ) → 1 ≤ occ c dead → kind_of final c ≡ 0
  kind_in_lem c b = ap (λ (l : List ℕ). get_or l c 0) phase4.kind ∙ phase3.kind_in c b

  swept_flags : (c : ℕ) → occ c dead ≡ 0 → flags_of (swept h) c ≡ flags_of h c
  swept_flags c o = phase3.flags_out c o ∙ ap (λ (l : List ℕ). get_or l c 0) flags2

  -- flags stay, or the cell was rescued
  flags_out_lem : (c : ℕ) → occ c dead ≡ 0 → (flags_of final c ≡ flags_of h c) ⊎ ((flags_of h c ≡ 3) × (flags_of final c ≡ 1) × (queued h ≡ 0))
  flags_out_lem c o =
      by_cases (ℕ_discrete (occ c saved) 0)
      (λ z. inl (phase4.flags_out c z ∙ swept_flags c o))
      (λ n. let x = saved_only c (omega arith) in inr (sym (swept_flags c o) ∙ x.1, phase4.flags_in c (omega arith), x.2))

  flags_in_lem : (c : ℕ) → 1 ≤ occ c dead → flags_of final c ≡ 0
  flags_in_lem c b =
      let z : flags_of (swept h) c ≡ 0 = phase3.flags_in c b in
      by_cases (ℕ_discrete (occ c saved) 0) (λ o. phase4.flags_out c o ∙ z) (λ n. absurd (omega (arith, (saved_only c (omega arith)).1)))

  slots_out_lem : (c i : ℕ) → i < 8 → occ c dead ≡ 0 → slot_of final c i ≡ slot_of h c i
  slots_out_lem c i b o = ap (λ (l : List ℕ). get_or l (8 * c + i) 0) phase4.slots ∙ phase3.slots_out c i b o ∙ ap (λ (l : List ℕ). get_or l (8 * c + i) 0) slots2

  slots_in_lem : (c i : ℕ) → i < 8 → 1 ≤ occ c dead → slot_of final c i ≡ 0
  slots_in_lem c i b d = ap (λ (l : List ℕ). get_or l (8 * c + i) 0) phase4.slots ∙ phase3_slots.slots_in c i b d

  abbrev lost : ℕ → ℕ
  lost c = held_by h.slots dead (suc c)

  -- after the first round
  pub first_round_count : (c : ℕ) → count_of h2 c + lost c ≡ count_of h c + occ c due
  first_round_count c = omega (arith, phase2.count c, phase1.count c, ap (λ (l : List ℕ). held_by l dead (suc c)) phase1.slots)

  -- the last phase writes no counts
  pub rescued_count : final.count ≡ (swept h).count
  rescued_count = phase4.count

  count_out_lem : (c : ℕ) → occ c dead ≡ 0 → count_of final c + lost c ≡ count_of h c + occ c due
  count_out_lem c o = omega (arith, ap (λ (l : List ℕ). get_or l c 0) rescued_count, phase3.count_out c o, first_round_count c)

  count_in_lem : (c : ℕ) → 1 ≤ occ c dead → count_of final c ≡ 0
  count_in_lem c b = ap (λ (l : List ℕ). get_or l c 0) rescued_count ∙ phase3.count_in c b

  slots_occ_lem : (c : ℕ) → occ (suc c) final.slots + lost c ≡ occ (suc c) h.slots
  slots_occ_lem c =
      omega (
        arith,
        ap (occ (suc c)) phase4.slots,
        phase3_slots.slots_occ c,
        ap (λ (l : List ℕ). held_by l dead (suc c)) slots2,
        ap (occ (suc c)) slots2,
      )

  queue_same : final.queue ≡ h1.queue
  queue_same = phase4.queue ∙ phase3.queue ∙ phase2.queue

  control_same : final.control ≡ h1.control
  control_same = phase4.control ∙ phase3.control ∙ phase2.control

  queued_is_lem : queued final ≡ queued h + length due
  queued_is_lem = ap (λ (l : List ℕ). get_or l 0 0) control_same ∙ phase1.queued_is

  -- a cell that stays and has flags 3 is rescued, if the queue was empty
  saved_in : (c : ℕ) → queued h ≡ 0 → occ c dead ≡ 0 → flags_of h c ≡ 3 → 1 ≤ occ c saved
  unfolding rescued
  saved_in c q o f =
      let used : Used h c = by_cases (dec_lt 0 (kind_of h c)) (λ u. u) (λ n. absurd (omega (arith, s.shaped.free_flags c (omega arith)))) in
      let mark : get_or (kept_marks h) c 0 ≡ 1 = omega (arith, out_live h s c used o, kept_bits h s c) in
      rw (eq-eqb (queued h) 0 q)
      (select_in is_rescued (cells h) c (inside h.kind c used) (and_join (eq-eqb _ 3 (swept_flags c o ∙ f)) (eq-eqb _ 1 mark)))

  pub collect_left : Left h (collect h).heap
  unfolding collect
  collect_left = record {
    kind_in = kind_in_lem;
    flags_in = flags_in_lem;
    count_in = count_in_lem;
    slots_in = slots_in_lem;
    kind_out = kind_out_lem;
    flags_out = flags_out_lem;
    rescued_in = λ c o f q. phase4.flags_in c (saved_in c q o f);
    count_out = count_out_lem;
    slots_out = slots_out_lem;
    slots_occ = slots_occ_lem;
    roots = phase4.roots ∙ phase3.roots ∙ phase2.roots ∙ phase1.roots;
    queued_is = queued_is_lem;
    running_is = ap (λ (l : List ℕ). get_or l 1 0) control_same ∙ phase1.running_is;
    entries_are = rw (control_same, queue_same) phase1.entries_is;
    rest = λ i b. ap (λ (l : List ℕ). get_or l i 0) queue_same ∙ phase1.rest i (omega (arith, queued_is_lem));
    kind_length = ap length phase4.kind ∙ phase3.kind_length ∙ ap length kind2;
    flags_length = phase4.flags_length ∙ phase3.flags_length ∙ ap length flags2;
    count_length = ap length rescued_count ∙ phase3.count_length ∙ phase2.count_length ∙ phase1.count_length;
    slots_length = ap length phase4.slots ∙ phase3.slots_length ∙ ap length slots2;
    queue_length = ap length queue_same ∙ phase1.queue_length;
    control_length = ap length control_same ∙ phase1.control_length;
  }
