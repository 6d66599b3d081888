-- Laws of the scan: it serves every noted cell, and leaves none noted. So marking to any depth and then scanning marks what `mark_from` marks.
-- Assumes nothing.
use Rattle.std.specs.Prelude.{ℕ, zero, suc, ◌-◌, ◌≤◌, ◌<◌, List, [], ◌++◌, ◌≡◌, eqb, length, get_or}
use Rattle.std.proofs.Math.Decide.{dec_lt}
use Rattle.std.proofs.Common.{arith, ⊎_elim, sym, ◌∙◌}
use Rattle.std.proofs.Math.Path.{refl, ap}
use borrow.Author.Tests.{lt-ltb, le-ltb, ne_eqb, eqb-true, eqb-false}
use Rattle.std.proofs.Math.Arith.{lt_of_le-ne}
use Rattle.rules.specs.Lists.{occ}
use Rattle.rules.specs.Marking.{mark_from}
use Rattle.rules.specs.Depth.{mark_cell, mark_slot, mark_table, noted_between, first_of, next_noted, scan, scan_all}
use Rattle.laws.specs.Lists.Tables.{inside}
use Rattle.laws.specs.Marking.Marks.{Within, Slots, Held, Bits, Closed, ClosedMarks, Marked, NoneNoted, FirstNoted, NextNoted}
use Rattle.laws.specs.Lists.Occ.{occ_room}
use Rattle.laws.specs.Words.Search.{lowest_from, first_law, first_only}
use Rattle.laws.specs.Marking.Closure.{within-append, closure_settled, closure_keeps, closure_lists, closure_unique}
use Rattle.laws.specs.Marking.Steps.{marked_none, marked_scanned, each_append, table_step, table_length, turn_length, turn_marked, turn_less}

-- ---- the next noted cell

pub noted_law : (m : List ℕ) (lo hi : ℕ) → lo ≤ hi → FirstNoted m lo hi (noted_between m lo hi)
unfolding noted_between
noted_law m lo hi h = first_law (λ c. eqb (get_or m c 0) 2) lo hi h

first_noted : (m : List ℕ) (lo hi r : ℕ) → FirstNoted m lo hi r → r ≡ noted_between m lo hi
first_noted m lo hi r f = first_only f (noted_law m lo hi (omega (arith, f.within)))

-- what the scan serves next, by the two searches
module _ (m : List ℕ) {from r : ℕ} (a : FirstNoted m from (length m) r) where
  pub next_after : r < length m → r ≡ next_noted m from
  unfolding next_noted first_of
  next_after h = rw (← first_noted m from (length m) r a, lt-ltb r (length m) h) refl

  module _ {s : ℕ} (b : FirstNoted m 0 from s) (h : length m ≤ r) where
    pub next_before : s < from → s ≡ next_noted m from
    unfolding next_noted first_of
    next_before l = rw (← first_noted m from (length m) r a, ← first_noted m 0 from s b, le-ltb r (length m) h, lt-ltb s from l) refl

    pub next_none : from ≤ s → length m ≡ next_noted m from
    unfolding next_noted first_of
    next_none l = rw (← first_noted m from (length m) r a, ← first_noted m 0 from s b, le-ltb r (length m) h, le-ltb s from l) refl

-- from cell 0 on one search is enough
pub next_first : (m : List ℕ) → noted_between m 0 (length m) ≡ next_noted m 0
next_first m =
    let a = noted_law m 0 (length m) (omega arith) in
    elim (dec_lt (noted_between m 0 (length m)) (length m)) [
      | yes l ↦ next_after m a l
      | no f ↦
          let e : noted_between m 0 (length m) ≡ length m = omega (arith, a.within) in
          e ∙ next_none m a (noted_law m 0 0 (omega arith)) (omega arith) (omega arith)
    ]

-- none from f on, and none below f
none_noted : (m : List ℕ) {f r r' : ℕ} → FirstNoted m f (length m) r → length m ≤ r → FirstNoted m 0 f r' → f ≤ r' → NoneNoted m
none_noted m {f} a h b h' d e = elim (dec_lt d f) [
  | yes l ↦ eqb-false (get_or m d 0) 2 (b.lowest d (omega arith) (omega arith)) e
  | no g ↦ eqb-false (get_or m d 0) 2 (a.lowest d (omega arith) (omega (arith, inside m d (omega arith)))) e
]

-- where none is noted from `from` on, a search of all cells finds the same as one up to `from`
pub next_round : (m : List ℕ) (from : ℕ) → from ≤ length m → length m ≤ noted_between m from (length m) → noted_between m 0 (length m) ≡ next_noted m from
next_round m from h past =
    let a = noted_law m from (length m) h in
    let b = noted_law m 0 from (omega arith) in
    elim (dec_lt (noted_between m 0 from) from) [
      | yes l ↦ sym (first_noted m 0 (length m) (noted_between m 0 from) (lowest_from (omega (arith, b.within)) (λ _. b.passes l) b.lowest)) ∙ next_before m a b past l
      | no f ↦
          let none = none_noted m a past b (omega arith) in
          sym (first_noted m 0 (length m) (length m) (lowest_from (omega arith) (λ l. absurd (omega arith)) (λ d _ _. ne_eqb (get_or m d 0) 2 (none d)))) ∙ next_none m a b past (omega arith)
    ]

-- a noted cell, or there is none
pub next_law : (m : List ℕ) (from : ℕ) → from ≤ length m → NextNoted m (next_noted m from)
next_law m from h =
    let a : FirstNoted m from (length m) (noted_between m from (length m)) = noted_law m from (length m) h in
    let b : FirstNoted m 0 from (noted_between m 0 from) = noted_law m 0 from (omega arith) in
    elim (dec_lt (noted_between m from (length m)) (length m)) [
      | yes l ↦ rw (← next_after m a l) (record { within = omega arith; found = λ x. eqb-true (get_or m (noted_between m from (length m)) 0) 2 (a.passes x); none = λ g. absurd (omega arith) })
      | no f ↦ elim (dec_lt (noted_between m 0 from) from) [
        | yes l ↦ rw (← next_before m a b (omega arith) l)
            (record { within = omega arith; found = λ _. eqb-true (get_or m (noted_between m 0 from) 0) 2 (b.passes l); none = λ g. absurd (omega arith) })
        | no g ↦ rw (← next_none m a b (omega arith) (omega arith)) (record { within = omega arith; found = λ x. absurd (omega arith); none = λ _. none_noted m a (omega arith) b (omega arith) })
      ]
    ]

-- ---- the scan

pub scan_end : (depth k : ℕ) (slots m : List ℕ) (c : ℕ) → length m ≤ c → scan depth k slots m c ≡ m
unfolding scan
scan_end depth zero slots m c h = refl
scan_end depth (suc k) slots m c h = rw (le-ltb c (length m) h) refl

pub scan_turn : (depth k : ℕ) (slots m : List ℕ) (c : ℕ) → c < length m
    → scan depth (suc k) slots m c ≡ scan depth k slots (mark_cell depth slots m c) (next_noted (mark_cell depth slots m c) c)
unfolding scan
scan_turn depth k slots m c h = rw (lt-ltb c (length m) h) refl

-- while a cell is noted, not all are marked
pub turns_left : (m : List ℕ) (c : ℕ) → NextNoted m c → c < length m → 0 < length m - occ 1 m
turns_left m c next h = omega (arith, occ_room 1 m c h (λ e. omega (arith, next.found h)))

-- enough turns serve every noted cell
pub record NotedServed (slots m m' : List ℕ) : Type 0 where
  pub marked : Marked slots [] m m'
  pub none : NoneNoted m'
  pub len : length m' ≡ length m

scanned : {slots : List ℕ} (depth : ℕ) → 0 < depth → (m₀ : List ℕ) (k : ℕ) (m : List ℕ) (c : ℕ) → Slots slots (length m) → NextNoted m c → length m - occ 1 m ≤ k
    → Marked slots [] m₀ m → length m ≡ length m₀ → NotedServed slots m₀ (scan depth k slots m c)
scanned {slots} depth deep m₀ zero m c s next l a e = elim (dec_lt c (length m)) [
  | yes h ↦ absurd (omega (arith, turns_left m c next h))
  | no f ↦ rw (scan_end depth zero slots m c (omega arith)) (record { marked = a; none = next.none (omega arith); len = e })
]
scanned {slots} depth deep m₀ (suc k) m c s next l a e = elim (dec_lt c (length m)) [
  | yes h ↦
      let m' : List ℕ = mark_cell depth slots m c in
      let len : length m' ≡ length m = turn_length depth deep m m' c s next h refl in
      rw (scan_turn depth k slots m c h)
      (scanned depth deep m₀ k m' (next_noted m' c) (rw len s) (next_law m' c (omega arith))
      (omega (arith, turn_less depth deep m m' c s next h refl)) (turn_marked depth deep m m' c s next h refl a) (len ∙ e))
  | no f ↦ rw (scan_end depth (suc k) slots m c (omega arith)) (record { marked = a; none = next.none (omega arith); len = e })
]

pub scan_law : {slots : List ℕ} (depth : ℕ) → 0 < depth → (m m' : List ℕ) → Slots slots (length m) → m' ≡ scan_all depth slots m → NotedServed slots m m'
unfolding scan_all
scan_law depth deep m m' s e = rw e (scanned depth deep m (length m) m (next_noted m 0) s (next_law m 0 (omega arith)) (omega arith) marked_none refl)

-- ---- the scan on its way: what began from marks m₀ goes on from marks m and the next cell c

pub record Scanning (depth : ℕ) (slots m₀ m : List ℕ) (c : ℕ) : Type 0 where
  pub len : length m ≡ length m₀
  pub next : NextNoted m c
  pub turns : ℕ
  pub enough : length m - occ 1 m ≤ turns
  pub left : scan depth turns slots m c ≡ scan_all depth slots m₀

pub scanning_begin : {depth : ℕ} {slots : List ℕ} (m : List ℕ) (c : ℕ) → c ≡ next_noted m 0 → Scanning depth slots m m c
unfolding scan_all
scanning_begin m c e = rw e (record { len = refl; next = next_law m 0 (omega arith); turns = length m; enough = omega arith; left = refl })

module _ {depth : ℕ} (deep : 0 < depth) {slots m₀ : List ℕ} (m m' : List ℕ) {c : ℕ} (s : Slots slots (length m)) (a : Scanning depth slots m₀ m c) (h : c < length m)
    (e : m' ≡ mark_cell depth slots m c) where
  pub scanning_less : length m' - occ 1 m' < length m - occ 1 m
  scanning_less = turn_less depth deep m m' c s a.next h e

  pub scanning_turn : (c' : ℕ) → c' ≡ next_noted m' c → Scanning depth slots m₀ m' c'
  scanning_turn c' f = go a.turns a.enough a.left
    where
      go : (k : ℕ) → length m - occ 1 m ≤ k → scan depth k slots m c ≡ scan_all depth slots m₀ → Scanning depth slots m₀ m' c'
      go zero l p = absurd (omega (arith, turns_left m c a.next h))
      go (suc k) l p =
          let len : length m' ≡ length m = turn_length depth deep m m' c s a.next h e in
          record {
            len = len ∙ a.len;
            next = rw f (next_law m' c (omega arith));
            turns = k;
            enough = omega (arith, scanning_less);
            left = rw (f, e) (sym (scan_turn depth k slots m c h) ∙ p);
          }

pub scanning_done : {depth : ℕ} {slots m₀ : List ℕ} (m : List ℕ) (c : ℕ) → Scanning depth slots m₀ m c → length m ≤ c → m ≡ scan_all depth slots m₀
scanning_done {depth} {slots} m c a h = sym (scan_end depth a.turns slots m c h) ∙ a.left

-- ---- "The depth shows in no answer"

-- where none is noted, marking from settled marks and a table has come to the rules' marks
pub marked_closure : {slots : List ℕ} (table m m' : List ℕ) → Slots slots (length m) → Within (length m) table → ClosedMarks slots m
    → length m' ≡ length m → Marked slots table m m' → NoneNoted m' → m' ≡ mark_from slots m table
marked_closure {slots} table m m' s w settled len a none =
    let bits : Bits m' = λ d. let two : get_or m' d 0 ≤ 2 = a.states (λ x. omega (arith, settled.bits x)) d in omega (arith, lt_of_le-ne two (none d)) in
    let closed : Closed slots (Held m') = λ c d h n. ⊎_elim (λ e. a.held d (settled.closed c d (omega arith) n)) (λ f. f d n) (a.done c (omega (arith, bits c))) in
    closure_unique slots m table settled.bits m' len (record { bits = bits; closed = closed }) a.held a.lists
    (a.least (mark_from slots m table) (closure_settled slots m table s.within settled.bits).closed (closure_keeps slots m table) (closure_lists slots m table w))

-- from settled marks, whatever the depth of marking, and of the scan if that marks anything
module _ {slots : List ℕ} (depth again : ℕ) (deep : 0 < again) (m : List ℕ) (s : Slots slots (length m)) (settled : ClosedMarks slots m) where
  pub depth_unseen : (table : List ℕ) → Within (length m) table → scan_all again slots (mark_table depth slots m table) ≡ mark_from slots m table
  depth_unseen table w =
      let len = table_length table m depth s w in
      let r = scan_law again deep (mark_table depth slots m table) (scan_all again slots (mark_table depth slots m table)) (rw len s) refl in
      marked_closure table m (scan_all again slots (mark_table depth slots m table)) s w settled (r.len ∙ len)
      (marked_scanned (table_step table depth s w refl) r.marked) r.none

  -- the same of two tables, one after the other
  pub depth_unseen_two : (roots queue : List ℕ) → Within (length m) roots → Within (length m) queue
      → scan_all again slots (mark_table depth slots (mark_table depth slots m roots) queue) ≡ mark_from slots m (roots ++ queue)
  unfolding mark_table
  depth_unseen_two roots queue w v =
      ap (scan_all again slots) (sym (each_append (mark_slot depth slots) roots queue m))
      ∙ depth_unseen (roots ++ queue) (within-append roots queue w v)
