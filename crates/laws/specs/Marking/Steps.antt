-- Laws of the steps of marking: they are steps in the sense of `Marked`, which hold what they should and no more, and keep what is marked.
-- Assumes nothing.
use Prim.Native.Nat.{ℕ, zero, suc, ◌+◌, ◌*◌, ◌-◌, ◌≤◌, ◌<◌}
use Rattle.std.proofs.Common.{pos_of_ne-zero, inl, inr, ⊎_elim, sym, ap, ◌∙◌, get_or-set_same, take_all}
use native.Mathlib.Omega.{arith}
use mathlib.Core.List.{List, [], ◌∷◌, ◌++◌}
use Rattle.std.specs.Prelude.{Bool, not, cond, ◌⊎◌, ◌≡◌, length, get_or, set, take}
use Rattle.std.proofs.Math.Bool.{true, false}
use Rattle.std.proofs.Math.Path.{refl}
use borrow.Author.Tests.{eqb-true, eqb-false, not-true}
use Rattle.std.proofs.Math.Dec.{eqb}
use Rattle.std.proofs.Math.ListN.{length-set}
use Rattle.rules.specs.Lists.{occ}
use Rattle.rules.specs.Heap.{slots_of}
use Rattle.rules.specs.Depth.{each, to_mark, if_unmarked, mark_cell, mark_slot, mark_table}
use Rattle.laws.specs.Lists.Tables.{slot_entry, slots_length_lem, set_cases}
use Rattle.laws.specs.Lists.Occ.{occ_grows, occ-length}
use Rattle.laws.specs.Marking.Marks.{Names, Within, Slots, Held, Marked, NextNoted}
use Rattle.laws.specs.Marking.Closure.{names-append, names_left, names_right, names_one, within_slots}

-- ---- nothing to mark, one step after another, noting a cell, and marking a cell by its slots

-- the table's cells are held already
pub marked_held : {slots table m : List ℕ} → ((d : ℕ) → Names table d → Held m d) → Marked slots table m m
marked_held l = record { kept = λ d e. e; held = λ d h. h; states = λ s. s; lists = l; least = λ p cl o n. o; done = λ d e. inl e }

pub marked_none : {slots m : List ℕ} → Marked slots [] m m
marked_none = marked_held (λ d n. absurd (omega (arith, n.1)))

pub marked_empty : {slots m : List ℕ} (r : ℕ) → r ≡ 0 → Marked slots (r ∷ []) m m
marked_empty r e = marked_held (λ d n. absurd (omega (arith, names_one r d n)))

pub marked_seen : {slots m : List ℕ} (r : ℕ) → (get_or m (r - 1) 0 ≡ 0 → ⊥) → Marked slots (r ∷ []) m m
marked_seen {slots} {m} r f = marked_held (λ d n. let e : r - 1 ≡ d = omega (arith, names_one r d n) in rw e at (pos_of_ne-zero f))

pub held_one : (m : List ℕ) (c : ℕ) → Held m c → (d : ℕ) → Names (suc c ∷ []) d → Held m d
held_one m c h d n = let e : c ≡ d = omega (arith, names_one (suc c) d n) in rw e at h

-- one step after another: from s and then from t is from u, if u has s, and t too but for what is held by then
marked_then : {slots m m' m'' : List ℕ} (s t u : List ℕ) → Marked slots s m m' → Marked slots t m' m''
    → ((d : ℕ) → Names u d → Held m' d ⊎ Names t d) → ((d : ℕ) → Names s d → Names u d) → ((d : ℕ) → Names t d → Held m' d ⊎ Names u d) → Marked slots u m m''
marked_then s t u a b split left right = record {
  kept = λ d e. b.kept d (a.kept d e);
  held = λ d h. b.held d (a.held d h);
  states = λ q. b.states (a.states q);
  lists = λ d n. ⊎_elim (λ h. b.held d h) (λ r. b.lists d r) (split d n);
  least = λ p cl o n.
      let mid = a.least p cl o (λ d l. n d (left d l)) in
      b.least p cl mid (λ d r. ⊎_elim (λ h. mid d h) (λ v. n d v) (right d r));
  done = λ d e. ⊎_elim
      (λ e'. ⊎_elim (λ e₀. inl e₀) (λ w. inr (λ x n. b.held x (w x n))) (a.done d e'))
      (λ w. inr w)
      (b.done d e);
}

pub marked_append : {slots s t m m' m'' : List ℕ} → Marked slots s m m' → Marked slots t m' m'' → Marked slots (s ++ t) m m''
marked_append {s = s} {t = t} a b =
    marked_then s t (s ++ t) a b (λ d n. ⊎_elim (λ l. inl (a.lists d l)) inr (names-append s t d n)) (names_left s t) (λ d n. inr (names_right s t d n))

-- a step from what is held already
pub marked_again : {slots s t m m' m'' : List ℕ} → Marked slots s m m' → ((d : ℕ) → Names t d → Held m' d) → Marked slots t m' m'' → Marked slots s m m''
marked_again {s = s} {t = t} a h b = marked_then s t s a b (λ d n. inl (a.lists d n)) (λ d n. n) (λ d n. inl (h d n))

-- then a scan that begins with no table
pub marked_scanned : {slots s m m' m'' : List ℕ} → Marked slots s m m' → Marked slots [] m' m'' → Marked slots s m m''
marked_scanned a b = marked_again a (λ d n. absurd (omega (arith, n.1))) b

-- with no depth left
pub marked_noted : {slots : List ℕ} (m : List ℕ) (c : ℕ) → c < length m → (get_or m c 0 ≡ 1 → ⊥) → Marked slots (suc c ∷ []) m (set m c 2)
marked_noted m c h f = record {
  kept = λ d e. ⊎_elim (λ w. absurd (f (ap (λ (x : ℕ). get_or m x 0) (sym w.0) ∙ e))) (λ s. s ∙ e) (set_cases m c 2 d);
  held = λ d x. ⊎_elim (λ w. omega arith) (λ s. omega arith) (set_cases m c 2 d);
  states = λ q d. ⊎_elim (λ w. omega arith) (λ s. omega (arith, q d)) (set_cases m c 2 d);
  lists = held_one (set m c 2) c (omega (arith, get_or-set_same m c 2 0 h));
  least = λ p cl o n d x. ⊎_elim (λ w. rw w.0 (n c (0, refl))) (λ s. o d (omega arith)) (set_cases m c 2 d);
  done = λ d e. ⊎_elim (λ w. absurd (omega arith)) (λ s. inl (sym s ∙ e)) (set_cases m c 2 d);
}

-- with depth left: the cell first, then its slots
pub marked_cell : {slots m m' : List ℕ} {c : ℕ} → c < length m → Marked slots (slots_of slots c) (set m c 1) m' → Marked slots (suc c ∷ []) m m'
marked_cell {slots} {m} {m'} {c} h a = record {
  kept = λ d e. a.kept d (⊎_elim (λ w. w.1) (λ s. s ∙ e) (set_cases m c 1 d));
  held = λ d x. a.held d (⊎_elim (λ w. omega arith) (λ s. omega arith) (set_cases m c 1 d));
  states = λ q. a.states (λ d. ⊎_elim (λ w. omega arith) (λ s. omega (arith, q d)) (set_cases m c 1 d));
  lists = λ d n. a.held d (held_one (set m c 1) c (omega (arith, get_or-set_same m c 1 0 h)) d n);
  least = λ p cl o n. a.least p cl (λ d x. ⊎_elim (λ w. rw w.0 (n c (0, refl))) (λ s. o d (omega arith)) (set_cases m c 1 d)) (λ d x. cl c d (n c (0, refl)) x);
  done = λ d e. ⊎_elim
      (λ e'. ⊎_elim (λ w. inr (rw w.0 a.lists)) (λ s. inl (sym s ∙ e')) (set_cases m c 1 d))
      (λ w. inr w)
      (a.done d e);
}

-- ---- the steps one reference at a time, as a loop takes them

pub each_none : (step : List ℕ → ℕ → List ℕ) (m table : List ℕ) → m ≡ each step m (take 0 table)
unfolding each
each_none step m table = refl

pub each_take : (step : List ℕ → ℕ → List ℕ) (table m : List ℕ) (k : ℕ) → k < length table
    → each step m (take (k + 1) table) ≡ step (each step m (take k table)) (get_or table k 0)
unfolding each
each_take step [] m k h = absurd (omega arith)
each_take step (r ∷ table) m zero h = refl
each_take step (r ∷ table) m (suc k) h = let e : suc k + 1 ≡ suc (k + 1) = omega arith in rw e (each_take step table (step m r) k (omega arith))

pub each_append : (step : List ℕ → ℕ → List ℕ) (s t m : List ℕ) → each step m (s ++ t) ≡ each step (each step m s) t
unfolding each
each_append step [] t m = refl
each_append step (r ∷ s) t m = each_append step s t (step m r)

-- one slot of a cell more
module _ {slots : List ℕ} (n c : ℕ) (s : Slots slots n) (h : c < n) (step : List ℕ → ℕ → List ℕ) (m : List ℕ) where
  pub each_slot : (k : ℕ) → k < 8
      → step (each step m (take k (slots_of slots c))) (get_or slots (8 * c + k) 0) ≡ each step m (take (k + 1) (slots_of slots c))
  each_slot k l = rw (← slot_entry slots c k l) (sym (each_take step (slots_of slots c) m k (omega (arith, slots_length_lem slots c n s.fit h))))

  -- all eight
  pub each_slots : (k : ℕ) → 8 ≤ k → each step m (take k (slots_of slots c)) ≡ each step m (slots_of slots c)
  each_slots k l = rw (take_all k (slots_of slots c) (omega (arith, slots_length_lem slots c n s.fit h)))

pub cell_noted : (slots m : List ℕ) (c depth : ℕ) → depth ≡ 0 → mark_cell depth slots m c ≡ set m c 2
unfolding mark_cell
cell_noted slots m c depth e = rw e refl

pub cell_deep : (slots m : List ℕ) (c depth : ℕ) → (depth ≡ 0 → ⊥)
    → mark_cell depth slots m c ≡ each (mark_slot (depth - 1) slots) (set m c 1) (slots_of slots c)
unfolding mark_cell mark_slot
cell_deep slots m c zero f = absurd (f refl)
cell_deep slots m c (suc depth) f = let e : suc depth - 1 ≡ depth = omega arith in rw e refl

-- by what the test says of the reference
module _ (slots m : List ℕ) (depth r : ℕ) {b : Bool} (e : b ≡ to_mark m r) where
  pub slot_cell : b ≡ true → mark_slot depth slots m r ≡ mark_cell depth slots m (r - 1)
  unfolding mark_slot if_unmarked
  slot_cell t = rw (sym e ∙ t) refl

  pub slot_none : b ≡ false → mark_slot depth slots m r ≡ m
  unfolding mark_slot if_unmarked
  slot_none t = rw (sym e ∙ t) refl

-- what it says
pub mark_empty : (m : List ℕ) (r : ℕ) → r ≡ 0 → false ≡ to_mark m r
unfolding to_mark
mark_empty m r e = rw e refl

pub mark_test : (m : List ℕ) (r : ℕ) → (r ≡ 0 → ⊥) → not (eqb (get_or m (r - 1) 0) 1) ≡ to_mark m r
unfolding to_mark
mark_test m zero f = absurd (f refl)
mark_test m (suc c) f = let i : suc c - 1 ≡ c = omega arith in rw i refl

pub mark_named : (m : List ℕ) (r : ℕ) → to_mark m r ≡ true → (0 < r) × (get_or m (r - 1) 0 ≡ 1 → ⊥)
unfolding to_mark
mark_named m zero e = absurd (let z : ◌≡◌ {A = ℕ} 0 1 = cc in omega arith)
mark_named m (suc c) e = let i : suc c - 1 ≡ c = omega arith in rw i (omega arith, eqb-false (get_or m c 0) 1 (not-true (eqb (get_or m c 0) 1) e))

-- ---- what the steps do

-- a step from marks m and a table gives marks m' of as many cells
abbrev Steps : List ℕ → List ℕ → List ℕ → List ℕ → Type 0
Steps slots table m m' = Marked slots table m m' × (length m' ≡ length m)

module _ (slots : List ℕ) (n : ℕ) where
  -- it does so for each reference, and for each cell that is not marked
  abbrev FromReference : (List ℕ → ℕ → List ℕ) → Type 0
  FromReference step = (m : List ℕ) (r : ℕ) → length m ≡ n → r ≤ n → Steps slots (r ∷ []) m (step m r)

  abbrev FromCell : (List ℕ → ℕ → List ℕ) → Type 0
  FromCell step = (m : List ℕ) (c : ℕ) → length m ≡ n → c < n → (get_or m c 0 ≡ 1 → ⊥) → Steps slots (suc c ∷ []) m (step m c)

  each_marked : (step : List ℕ → ℕ → List ℕ) → FromReference step → (table m : List ℕ) → length m ≡ n → Within n table → Steps slots table m (each step m table)
  unfolding each
  each_marked step s [] m e w = (marked_none, refl)
  each_marked step s (r ∷ table) m e w =
      let one = s m r e (w 0) in
      let rest = each_marked step s table (step m r) (one.1 ∙ e) (λ i. w (suc i)) in
      (marked_append one.0 rest.0, rest.1 ∙ one.1)

  reference_marked : (step : List ℕ → ℕ → List ℕ) → FromCell step → FromReference (if_unmarked step)
  unfolding if_unmarked to_mark
  reference_marked step s m zero e h = (marked_empty 0 refl, refl)
  reference_marked step s m (suc c) e h = let i : suc c - 1 ≡ c = omega arith in rw i (go (eqb (get_or m c 0) 1) refl)
    where
      go : (b : Bool) → eqb (get_or m c 0) 1 ≡ b → Steps slots (suc c ∷ []) m (cond (not b) (step m c) m)
      go true t = (marked_seen (suc c) (let i : suc c - 1 ≡ c = omega arith in rw i (λ z. omega (arith, eqb-true (get_or m c 0) 1 t))), refl)
      go false t = s m c e (omega arith) (eqb-false (get_or m c 0) 1 t)

  module _ (s : Slots slots n) where
    -- the slots of a cell that is marked
    inner : (step : List ℕ → ℕ → List ℕ) → FromCell step → (m : List ℕ) (c : ℕ) → length m ≡ n → Steps slots (slots_of slots c) (set m c 1) (each (if_unmarked step) (set m c 1) (slots_of slots c))
    inner step f m c e = each_marked (if_unmarked step) (reference_marked step f) (slots_of slots c) (set m c 1) (length-set m c 1 ∙ e) (within_slots slots c s.within)

    cell_marked : (depth : ℕ) → FromCell (mark_cell depth slots)
    unfolding mark_cell
    cell_marked zero m c e h f = (marked_noted m c (omega arith) f, length-set m c 2)
    cell_marked (suc depth) m c e h f = let r = inner (mark_cell depth slots) (cell_marked depth) m c e in (marked_cell (omega arith) r.0, r.1 ∙ length-set m c 1)

    -- with depth left the cell is marked
    cell_held : (depth : ℕ) (m : List ℕ) (c : ℕ) → length m ≡ n → c < n → 0 < depth → get_or (mark_cell depth slots m c) c 0 ≡ 1
    unfolding mark_cell
    cell_held zero m c e h d = absurd (omega arith)
    cell_held (suc depth) m c e h d = (inner (mark_cell depth slots) (cell_marked depth) m c e).0.kept c (get_or-set_same m c 1 0 (omega arith))

    table_marked : (depth : ℕ) (table m : List ℕ) → length m ≡ n → Within n table → Steps slots table m (mark_table depth slots m table)
    unfolding mark_table mark_slot
    table_marked depth = each_marked (if_unmarked (mark_cell depth slots)) (reference_marked (mark_cell depth slots) (cell_marked depth))

pub table_length : {slots : List ℕ} (table m : List ℕ) (depth : ℕ) → Slots slots (length m) → Within (length m) table
    → length (mark_table depth slots m table) ≡ length m
table_length {slots} table m depth s w = (table_marked slots (length m) s depth table m refl w).1

-- marks m' that marking a table gave
pub table_step : {slots m m' : List ℕ} (table : List ℕ) (depth : ℕ) → Slots slots (length m) → Within (length m) table
    → m' ≡ mark_table depth slots m table → Marked slots table m m'
table_step {slots} {m} {m'} table depth s w e = rw e (table_marked slots (length m) s depth table m refl w).0

-- a turn of the scan: the noted cell c is marked, nested to some depth
module _ {slots : List ℕ} (depth : ℕ) (deep : 0 < depth) (m m' : List ℕ) (c : ℕ) (s : Slots slots (length m)) (next : NextNoted m c) (h : c < length m)
    (e : m' ≡ mark_cell depth slots m c) where
  unmarked : get_or m c 0 ≡ 1 → ⊥
  unmarked z = omega (arith, next.found h)

  served_step : Steps slots (suc c ∷ []) m m'
  served_step = rw e (cell_marked slots (length m) s depth m c refl h unmarked)

  pub turn_length : length m' ≡ length m
  turn_length = served_step.1

  pub turn_marked : {m₀ : List ℕ} → Marked slots [] m₀ m → Marked slots [] m₀ m'
  turn_marked a = marked_again a (held_one m c (omega (arith, next.found h))) served_step.0

  -- one marked cell more, at least
  pub turn_less : length m' - occ 1 m' < length m - occ 1 m
  turn_less =
      omega (arith, occ-length 1 m', served_step.1, occ_grows 1 m m' served_step.1 served_step.0.kept c h unmarked (rw e (cell_held slots (length m) s depth m c refl h deep)))
