-- tallyOk as the code finds it, test after test: t1, t2 and t3 are the tally after the queue, the roots and the slots.
-- Assumes nothing.
use Prim.Native.Nat.{ℕ, suc, ◌+◌, ◌<◌}
use native.Mathlib.Omega.{arith}
use mathlib.Core.List.{List}
use mathlib.Core.Bool.{Bool, true, false, ◌&&◌, and-true}
use mathlib.Core.Path.{◌≡◌, sym, ap, ◌∙◌}
use lib.ListN.{length, get_or}
use borrow.Author.Tests.{eqb-true}
use Rattle.rules.specs.Lists.{all, below, distinct, occ, dangling}
use Rattle.rules.specs.Lists as Lists
use Rattle.laws.specs.Lists.Tests.{tests_agree, every_not, clash, and_join, and_left, and_right, below_all, below_at}
use Rattle.laws.specs.Sound.Tally.{counters, Tallied, TallyRoom, room_after, less_room}
use Rattle.tally.proofs.Scratch.{cells_of, cell_entry}
use Rattle.soundness.specs.Tests.{names, shape_ok, count_matches, shape_at, slots_at, count_at, tally_ok, Scratch}

-- tests that agree on each number below n
below_same : (n : ℕ) (p q : ℕ → Bool) → ((c : ℕ) → c < n → p c ≡ q c) → below n p ≡ below n q
below_same n p q e =
    tests_agree _ _ (λ t. below_all n q (λ c l. sym (e c l) ∙ below_at n p t c l)) (λ t. below_all n p (λ c l. e c l ∙ below_at n q t c l))

module _ (zeros kind flags count slots roots entries : List ℕ) (s : Scratch zeros kind flags count slots roots entries) where
  queue_here : (distinct entries && all (names (counters zeros)) entries) ≡ (distinct entries && all (names (length kind)) entries)
  queue_here =
      let many0 : counters zeros ≡ length kind = omega (arith, s.tally_size) in
      ap (λ (n : ℕ). distinct entries && all (names n) entries) many0

  pub bad_queue : (distinct entries && all (names (counters zeros)) entries) ≡ false → tally_ok kind flags count slots roots entries ≡ false
  unfolding tally_ok
  bad_queue e = every_not _ (λ t. clash (queue_here ∙ and_join t.0 t.1.0) e)

  module _ (t1 : List ℕ) (e1 : Tallied zeros entries t1) where
    long1 : length t1 ≡ suc (length kind)
    long1 = e1.size ∙ s.tally_size

    at1 : (c : ℕ) → c < length kind → get_or t1 (suc c) 0 ≡ occ (suc c) entries
    at1 c l = omega (arith, e1.at (suc c) (omega arith) (omega (arith, s.tally_size)), s.clear (suc c))

    shapes : below (length kind) (shape_at kind flags (cells_of t1)) ≡ below (length kind) (λ c. shape_ok (get_or kind c 0) (get_or flags c 0) (occ (suc c) entries))
    shapes = below_same _ _ _ (λ c l. ap (shape_ok (get_or kind c 0) (get_or flags c 0)) (cell_entry t1 c ∙ at1 c l))

    pub bad_shapes : below (length kind) (shape_at kind flags (cells_of t1)) ≡ false → tally_ok kind flags count slots roots entries ≡ false
    unfolding tally_ok
    bad_shapes e = every_not _ (λ t. clash t.1.1.0 (sym shapes ∙ e))

    -- room for the roots and the slots: at most one for each entry of the queue so far
    room1 : TallyRoom t1 (length roots + length slots)
    room1 =
        room_after (length roots + length slots) e1
        (record { some = omega (arith, s.tally_size); fits16 = λ x. omega (arith, s.clear x, s.few, s.most, s.roots_size, s.slots_size) })

    pub room_roots : TallyRoom t1 (length roots)
    room_roots = less_room (length roots + length slots) (length roots) (omega arith) room1

    roots_here : dangling (counters t1) roots ≡ dangling (length kind) roots
    roots_here =
        let many1 : counters t1 ≡ length kind = omega (arith, long1) in
        ap (λ (n : ℕ). dangling n roots) many1

    pub bad_roots : (dangling (counters t1) roots ≡ 0 → ⊥) → tally_ok kind flags count slots roots entries ≡ false
    unfolding tally_ok
    bad_roots n = every_not _ (λ t. n (roots_here ∙ eqb-true (dangling (length kind) roots) 0 t.1.1.1.0))

    module _ (t2 : List ℕ) (e2 : Tallied t1 roots t2) where
      pub room_slots : TallyRoom t2 (length slots)
      room_slots = room_after (length slots) e2 room1

      slots_here : below (length kind) (slots_at (counters t2) kind slots) ≡ below (length kind) (slots_at (length kind) kind slots)
      slots_here =
          let many2 : counters t2 ≡ length kind = omega (arith, e2.size, long1) in
          ap (λ (n : ℕ). below (length kind) (slots_at n kind slots)) many2

      pub bad_slots : below (length kind) (slots_at (counters t2) kind slots) ≡ false → tally_ok kind flags count slots roots entries ≡ false
      unfolding tally_ok
      bad_slots e = every_not _ (λ t. clash t.1.1.1.1.0 (sym slots_here ∙ e))

      pub by_counts : (t3 : List ℕ) → Tallied t2 slots t3
          → (distinct entries && all (names (counters zeros)) entries) ≡ true → below (length kind) (shape_at kind flags (cells_of t1)) ≡ true
          → dangling (counters t1) roots ≡ 0 → below (length kind) (slots_at (counters t2) kind slots) ≡ true
          → tally_ok kind flags count slots roots entries ≡ below (length kind) (count_at kind count (cells_of t3))
      unfolding tally_ok Lists.every
      by_counts t3 e3 q sh r sl =
          let both : (distinct entries && all (names (length kind)) entries) ≡ true = sym queue_here ∙ q in
          let once : distinct entries ≡ true = and_left (distinct entries) (all (names (length kind)) entries) both in
          let named : all (names (length kind)) entries ≡ true = and_right (distinct entries) (all (names (length kind)) entries) both in
          let at3 : (c : ℕ) → c < length kind → get_or t3 (suc c) 0 ≡ occ (suc c) entries + occ (suc c) roots + occ (suc c) slots
          = λ c l. omega (arith, at1 c l, long1, e2.size, e2.at (suc c) (omega arith) (omega (arith, long1)), e3.at (suc c) (omega arith) (omega (arith, long1, e2.size))) in
          rw (once, named, sym shapes ∙ sh, sym roots_here ∙ r, sym slots_here ∙ sl)
          (and-true _ ∙ below_same _ _ _ (λ c l. ap (count_matches (get_or kind c 0) (get_or count c 0)) (sym (cell_entry t3 c ∙ at3 c l))))
