-- The law of the check: on tables that fit, where the queue's length, the running root and the unused entries of the queue are right, tallyOk is `sound`.
-- Assumes nothing.
use Prim.Native.Nat.{ℕ, zero, suc, ◌+◌, ◌*◌, ◌≤◌, ◌<◌, ◌-◌, ◌/◌, ◌%◌}
use native.Mathlib.Omega.{arith}
use native.Mathlib.Decide.{ℕ_discrete, dec_lt}
use mathlib.Core.List.{List, []}
use mathlib.Core.Bool.{true, false, cond, ◌&&◌}
use mathlib.Core.Logic.{◌≢◌, inl, inr, ⊎_elim, by_cases}
use mathlib.Core.Path.{◌≡◌, refl, sym, ap, ◌∙◌}
use lib.Dec.{leb, eqb}
use lib.ListN.{length, get_or, drop, length-drop, get_or-eq_default}
use lib.Seq.{get_or-drop}
use borrow.Author.Tests.{eqb-true, eq-eqb, ne_eqb, leb-true, le-leb}
use Rattle.rules.specs.Lists.{occ, all, dangling}
use Rattle.rules.specs.Lists as Lists
use Rattle.rules.specs.Heap.{Heap, cells, queued, running, kind_of, flags_of, count_of, slot_of, slots_of, entries}
use Rattle.rules.specs.Sound.{Sized}
use Rattle.rules.specs.Check.{cell_ok, running_ok, sound}
use Rattle.laws.specs.Lists.Tests.{every_pass, pass_every, every_not, tests_agree, clash, and_join, and_left, and_right, below_all, below_at, all_all, all_at}
use Rattle.laws.specs.Lists.Tables.{inside, slot_entry, slots_length_lem}
use Rattle.laws.specs.Lists.Occ.{occ_nil, occ_at, occ_find, occ_none, distinct_once, once_distinct}
use Rattle.laws.specs.Sound.But.{SoundBut, referred_used}
use Rattle.laws.specs.Sound.Reflect.{CellRules, cell_rules, cell_ok_lem, flags_of_lem, running_of, sound_of, of_sound}
use Rattle.laws.specs.Sound.Facts.{ready_facts, facts_ready}
use Rattle.laws.specs.Sound.Tally.{dangling_none, none_dangling}
use Rattle.soundness.specs.Tests.{shape_ok, slots_ok, count_matches, tally_ok}
use Rattle.soundness.proofs.Queueing.{names_of, names_ok}
use Rattle.soundness.proofs.Slots.{of_object, of_other}

-- ---- what the tests of a cell say

shape_of : (k f q : ℕ) → shape_ok k f q ≡ true → CellRules k f 0 [] × (1 ≤ q → (k ≡ 1) × (f ≡ 1))
unfolding shape_ok
shape_of k f q t = (
  cell_rules k f 0 [] (and_left (cell_ok k f 0 []) (cond (eqb q 0) true (eqb k 1 && eqb f 1)) t),
  λ some. let both : (eqb k 1 && eqb f 1) ≡ true = rw (ne_eqb q 0 (λ e. omega arith)) at (and_right (cell_ok k f 0 []) (cond (eqb q 0) true (eqb k 1 && eqb f 1)) t) in
      (eqb-true k 1 (and_left (eqb k 1) (eqb f 1) both), eqb-true f 1 (and_right (eqb k 1) (eqb f 1) both)),
)

shape_ok_lem : (k f q : ℕ) → CellRules k f 0 [] → (1 ≤ q → (k ≡ 1) × (f ≡ 1)) → shape_ok k f q ≡ true
unfolding shape_ok
shape_ok_lem k f q r o =
    and_join (cell_ok_lem k f 0 [] r)
    (by_cases (ℕ_discrete q 0) (λ e. rw (eq-eqb q 0 e) refl) (λ n. rw (ne_eqb q 0 n) (and_join (eq-eqb k 1 (o (omega arith)).0) (eq-eqb f 1 (o (omega arith)).1))))

matches_of : (k n t : ℕ) → count_matches k n t ≡ true → (n ≡ t) × (k ≡ 0 → n ≡ 0) × (1 ≤ k → 1 ≤ n)
unfolding count_matches
matches_of k n t p =
    let q : cond (eqb k 0) (eqb n 0) (leb 1 n) ≡ true = and_right (eqb n t) (cond (eqb k 0) (eqb n 0) (leb 1 n)) p in (
      eqb-true n t (and_left (eqb n t) (cond (eqb k 0) (eqb n 0) (leb 1 n)) p),
      λ e. eqb-true n 0 (rw (eq-eqb k 0 e) at q),
      λ u. leb-true 1 n (rw (ne_eqb k 0 (λ e. omega arith)) at q),
    )

matches_ok : (k n t : ℕ) → n ≡ t → (k ≡ 0 → n ≡ 0) → (1 ≤ k → 1 ≤ n) → count_matches k n t ≡ true
unfolding count_matches
matches_ok k n t e f u =
    and_join (eq-eqb n t e)
    (by_cases (ℕ_discrete k 0) (λ z. rw (eq-eqb k 0 z) (eq-eqb n 0 (f z))) (λ z. rw (ne_eqb k 0 z) (le-leb 1 n (u (omega arith)))))

-- of a cell that is no object, the slots are empty; of any, they name cells
slots_empty : (n k : ℕ) (s : List ℕ) → slots_ok n k s ≡ true → k ≢ 1 → (i : ℕ) → i < length s → get_or s i 0 ≡ 0
slots_empty n k s t o i m = sym (eqb-true 0 (get_or s i 0) (all_at (eqb 0) s (sym (of_other n k s o) ∙ t) i m))

slots_low : (n k : ℕ) (s : List ℕ) → slots_ok n k s ≡ true → (i : ℕ) → i < length s → get_or s i 0 ≤ n
slots_low n k s t i m =
    by_cases (ℕ_discrete k 1)
    (λ e. dangling_none n s (eqb-true (dangling n s) 0 (sym (of_object n k s e) ∙ t)) i m)
    (λ o. omega (arith, slots_empty n k s t o i m))

-- ---- the tests of a heap

module _ (h : Heap) (z : Sized h) where
  -- ---- from the rules to the tests

  module _ (s : SoundBut h []) where
    -- what names only used cells names cells
    low : (l : List ℕ) → ((c : ℕ) → 1 ≤ occ (suc c) l → 1 ≤ kind_of h c) → (i : ℕ) → i < length l → get_or l i 0 ≤ cells h
    low l used i m = go (get_or l i 0) refl
      where
        go : (x : ℕ) → get_or l i 0 ≡ x → x ≤ cells h
        go zero e = omega arith
        go (suc c) e = inside h.kind c (used c (occ_at (suc c) l i m e))

    slot_low : (i : ℕ) → i < length h.slots → get_or h.slots i 0 ≤ cells h
    slot_low = low h.slots (λ c o. referred_used h [] s c (omega arith))

    plain_rules : (c : ℕ) → CellRules (kind_of h c) (flags_of h c) 0 []
    unfolding Lists.all
    plain_rules c =
        record {
          small = s.shaped.kinds c;
          free = λ e. (s.shaped.free_flags c e, refl, refl);
          plain = λ e. (s.shaped.plain_flags c (⊎_elim (λ t. omega arith) (λ t. omega arith) e), refl);
          object = λ e. flags_of_lem (flags_of h c) (s.shaped.object_flags c e) (s.shaped.object_not_two c e);
        }

    slots_right : (c : ℕ) → c < cells h → slots_ok (cells h) (kind_of h c) (slots_of h.slots c) ≡ true
    slots_right c l =
        let size = slots_length_lem h.slots c (cells h) z.slots l in
        by_cases (ℕ_discrete (kind_of h c) 1)
        (λ e. of_object (cells h) (kind_of h c) (slots_of h.slots c) e
        ∙ eq-eqb (dangling (cells h) (slots_of h.slots c)) 0 (none_dangling (cells h) (slots_of h.slots c)
        (λ j m. omega (arith, slot_entry h.slots c j (omega arith), slot_low (8 * c + j) (omega (arith, z.slots))))))
        (λ o. of_other (cells h) (kind_of h c) (slots_of h.slots c) o
        ∙ all_all (eqb 0) (slots_of h.slots c) (λ j m. eq-eqb 0 (get_or (slots_of h.slots c) j 0) (sym (slot_entry h.slots c j (omega arith) ∙ empty o j (omega arith)))))
      where
        empty : kind_of h c ≢ 1 → (j : ℕ) → j < 8 → slot_of h c j ≡ 0
        empty o j b =
            by_cases (ℕ_discrete (kind_of h c) 0) (λ e. s.shaped.free_slots c j b e) (λ n. s.shaped.plain_slots c j b (omega arith))

    sound_tally : tally_ok h.kind h.flags h.count h.slots h.roots (entries h) ≡ true
    unfolding tally_ok
    sound_tally =
        pass_every _ (
          once_distinct (entries h) s.queue.once,
          (
            all_all _ (entries h) (λ i m. names_ok (cells h) (get_or (entries h) i 0)
                (by_cases (ℕ_discrete (get_or (entries h) i 0) 0) (λ e. absurd (omega (arith, s.queue.none_empty, occ_at 0 (entries h) i m e))) (λ n. omega arith))
                (low (entries h) (λ c o. omega (arith, s.queue.object c o)) i m)),
            (
              below_all _ _ (λ c l. shape_ok_lem _ _ _ (plain_rules c) (λ o. (s.queue.object c o, s.queue.wanting c o))),
              (
                eq-eqb _ _ (none_dangling (cells h) h.roots (low h.roots (λ c o. referred_used h [] s c (omega arith)))),
                (
                  below_all _ _ slots_right,
                  (
                    below_all _ _ (λ c l. matches_ok _ _ _ (omega (arith, s.counted c, occ_nil (suc c))) (s.free_count c) (s.positive c)),
                    tt,
                  ),
                ),
              ),
            ),
          ),
        )

  -- ---- from the tests to the rules

  module _ (few : queued h ≤ cells h) (runs : running_ok (running h) (queued h) ≡ true) (rest : all (eqb 0) (drop (queued h) h.queue) ≡ true)
      (p : tally_ok h.kind h.flags h.count h.slots h.roots (entries h) ≡ true) where
    once : (x : ℕ) → occ x (entries h) ≤ 1
    unfolding tally_ok
    once = distinct_once (entries h) (every_pass _ p).0

    entry_low : (i : ℕ) → i < length (entries h) → (1 ≤ get_or (entries h) i 0) × (get_or (entries h) i 0 ≤ cells h)
    unfolding tally_ok
    entry_low i m = names_of (cells h) (get_or (entries h) i 0) (all_at _ (entries h) (every_pass _ p).1.0 i m)

    shape : (c : ℕ) → c < cells h → CellRules (kind_of h c) (flags_of h c) 0 [] × (1 ≤ occ (suc c) (entries h) → (kind_of h c ≡ 1) × (flags_of h c ≡ 1))
    unfolding tally_ok
    shape c l = shape_of (kind_of h c) (flags_of h c) (occ (suc c) (entries h)) (below_at _ _ (every_pass _ p).1.1.0 c l)

    root_low : (i : ℕ) → i < length h.roots → get_or h.roots i 0 ≤ cells h
    unfolding tally_ok
    root_low = dangling_none (cells h) h.roots (eqb-true _ _ (every_pass _ p).1.1.1.0)

    slots_at_lem : (c : ℕ) → c < cells h → slots_ok (cells h) (kind_of h c) (slots_of h.slots c) ≡ true
    unfolding tally_ok
    slots_at_lem c l = below_at _ _ (every_pass _ p).1.1.1.1.0 c l

    count : (c : ℕ) → c < cells h
        → (count_of h c ≡ occ (suc c) (entries h) + occ (suc c) h.roots + occ (suc c) h.slots) × (kind_of h c ≡ 0 → count_of h c ≡ 0) × (1 ≤ kind_of h c → 1 ≤ count_of h c)
    unfolding tally_ok
    count c l = matches_of (kind_of h c) (count_of h c) (occ (suc c) (entries h) + occ (suc c) h.roots + occ (suc c) h.slots) (below_at _ _ (every_pass _ p).1.1.1.1.1.0 c l)

    -- beyond the tables all is 0
    rules : (c : ℕ) → CellRules (kind_of h c) (flags_of h c) 0 []
    unfolding Lists.all
    rules c =
        by_cases (dec_lt c (cells h)) (λ l. (shape c l).0) (λ g.
        let k : kind_of h c ≡ 0 = get_or-eq_default h.kind 0 {n = c} (omega arith) in
        let f : flags_of h c ≡ 0 = get_or-eq_default h.flags 0 {n = c} (omega (arith, z.flags)) in
        record {
          small = omega arith;
          free = λ e. (f, refl, refl);
          plain = ⊎_elim (λ e. absurd (omega arith)) (λ e. absurd (omega arith));
          object = λ e. absurd (omega arith);
        })

    plain_flags_lem : (c : ℕ) → 2 ≤ kind_of h c → flags_of h c ≡ 0
    plain_flags_lem c t =
        ((rules c).plain (by_cases (ℕ_discrete (kind_of h c) 2) inl (λ n. inr (omega (arith, (rules c).small))))).0

    slot_empty : (c j : ℕ) → j < 8 → kind_of h c ≢ 1 → slot_of h c j ≡ 0
    slot_empty c j b o =
        by_cases (dec_lt c (cells h))
        (λ l. sym (slot_entry h.slots c j b)
        ∙ slots_empty (cells h) (kind_of h c) (slots_of h.slots c) (slots_at_lem c l) o j (omega (arith, slots_length_lem h.slots c (cells h) z.slots l)))
        (λ g. get_or-eq_default h.slots 0 {n = 8 * c + j} (omega (arith, z.slots)))

    slot_all_low : (i : ℕ) → i < length h.slots → get_or h.slots i 0 ≤ cells h
    slot_all_low i m =
        let l : i / 8 < cells h = omega (arith, z.slots) in
        let e : 8 * (i / 8) + i % 8 ≡ i = omega arith in
        omega (
          arith,
          slots_low (cells h) (kind_of h (i / 8)) (slots_of h.slots (i / 8)) (slots_at_lem (i / 8) l) (i % 8) (omega (arith, slots_length_lem h.slots (i / 8) (cells h) z.slots l)),
          slot_entry h.slots (i / 8) (i % 8) (omega arith),
          ap (λ (k : ℕ). get_or h.slots k 0) e,
        )

    -- nothing refers beyond the tables
    none_high : (l : List ℕ) → ((i : ℕ) → i < length l → get_or l i 0 ≤ cells h) → (c : ℕ) → cells h ≤ c → occ (suc c) l ≡ 0
    none_high l f c g = occ_none (suc c) l (λ i m e. omega (arith, f i m))

    counts : (c : ℕ) → count_of h c ≡ occ (suc c) h.roots + occ (suc c) h.slots + occ (suc c) (entries h) + occ (suc c) []
    counts c =
        by_cases (dec_lt c (cells h))
        (λ l. omega (arith, (count c l).0, occ_nil (suc c)))
        (λ g. omega (
          arith,
          get_or-eq_default h.count 0 {n = c} (omega (arith, z.count)),
          none_high h.roots root_low c (omega arith),
          none_high h.slots slot_all_low c (omega arith),
          none_high (entries h) (λ i m. (entry_low i m).1) c (omega arith),
          occ_nil (suc c),
        ))

    free_count_lem : (c : ℕ) → kind_of h c ≡ 0 → count_of h c ≡ 0
    free_count_lem c e =
        by_cases (dec_lt c (cells h)) (λ l. (count c l).1 e) (λ g. get_or-eq_default h.count 0 {n = c} (omega (arith, z.count)))

    entry_cell : (c : ℕ) → 1 ≤ occ (suc c) (entries h) → (kind_of h c ≡ 1) × (flags_of h c ≡ 1)
    entry_cell c o =
        let f = occ_find (suc c) (entries h) o in
        (shape c (omega (arith, f.is, (entry_low f.at f.inside).1))).1 o

    unused : (i : ℕ) → queued h ≤ i → get_or h.queue i 0 ≡ 0
    unused i l =
        by_cases (dec_lt i (length h.queue))
        (λ m. let e : queued h + (i - queued h) ≡ i = omega arith in
        ap (λ (k : ℕ). get_or h.queue k 0) (sym e) ∙ sym (get_or-drop (queued h) h.queue (i - queued h) 0)
        ∙ sym (eqb-true 0 _ (all_at (eqb 0) (drop (queued h) h.queue) rest (i - queued h) (omega (arith, length-drop (queued h) h.queue)))))
        (λ g. get_or-eq_default h.queue 0 {n = i} (omega arith))

    tally_facts : SoundBut h []
    tally_facts =
        record {
          fit = record {
            some = z.least;
            small = z.most;
            flags_size = z.flags;
            count_size = z.count;
            queue_size = z.queue;
            control_size = z.control;
          };
          slots = z.slots;
          roots = z.roots;
          shaped = record {
            kinds = λ c. (rules c).small;
            free_flags = λ c e. ((rules c).free e).0;
            free_slots = λ c k b e. slot_empty c k b (λ o. omega arith);
            plain_flags = plain_flags_lem;
            plain_slots = λ c k b t. slot_empty c k b (λ o. omega arith);
            object_flags = λ c e. ⊎_elim (λ f. omega arith) (⊎_elim (λ f. omega arith) (λ f. omega arith)) ((rules c).object e);
            object_not_two = λ c e t. ⊎_elim (λ f. omega arith) (⊎_elim (λ f. omega arith) (λ f. omega arith)) ((rules c).object e);
          };
          free_count = free_count_lem;
          queue = record {
            within = few;
            once = once;
            none_empty = occ_none 0 (entries h) (λ i m e. omega (arith, (entry_low i m).0));
            object = λ c o. (entry_cell c o).0;
            wanting = λ c o. (entry_cell c o).1;
            rest = unused;
          };
          running_most = ⊎_elim (λ e. omega arith) (λ t. omega (arith, t.1)) (running_of _ _ runs);
          runs = λ o. ⊎_elim (λ e. absurd (omega arith)) (λ t. t.2) (running_of _ _ runs);
          counted = counts;
          positive = λ c u. (count c (inside h.kind c u)).2 u;
        }

  pub by_tally : queued h ≤ cells h → running_ok (running h) (queued h) ≡ true → all (eqb 0) (drop (queued h) h.queue) ≡ true
      → sound h ≡ tally_ok h.kind h.flags h.count h.slots h.roots (entries h)
  by_tally few runs rest =
      tests_agree _ _
      (λ p. sound_tally (ready_facts (record { sized = z; sound = sound_of h z p })))
      (λ p. of_sound h z (facts_ready (tally_facts few runs rest p)).sound)

-- ---- a test of `sound` that fails

module _ (h : Heap) where
  pub bad_length : cells h < queued h → sound h ≡ false
  unfolding sound
  bad_length l = every_not _ (λ t. omega (arith, leb-true (queued h) (cells h) t.1.1.1.1.0))

  pub bad_running : running_ok (running h) (queued h) ≡ false → sound h ≡ false
  unfolding sound
  bad_running e = every_not _ (λ t. clash t.1.1.1.1.1.1.1.1.0 e)

  pub bad_rest : all (eqb 0) (drop (queued h) h.queue) ≡ false → sound h ≡ false
  unfolding sound
  bad_rest e = every_not _ (λ t. clash t.1.1.1.1.1.1.1.0 e)
