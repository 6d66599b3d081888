-- Laws of the loops over the unmarked used cells: the cells between two of them are no garbage.
-- Assumes nothing.
use Prim.Native.Nat.{ℕ, suc, ◌*◌, ◌/◌, ◌≤◌, ◌<◌}
use native.Mathlib.Omega.{arith}
use mathlib.Core.List.{List, [], ◌∷◌}
use mathlib.Core.Bool.{Bool, true, false, not, ◌&&◌, cond, and-true}
use mathlib.Core.Path.{◌≡◌, sym, ap, ◌∙◌}
use borrow.Author.Tests.{eqb-true, ne_eqb}
use lib.Dec.{eqb}
use lib.ListN.{length, get_or}
use Rattle.rules.specs.Lists.{occ, select}
use Rattle.rules.specs.Words.{bit_of, marked_of, bits_of, UsedBits, is_open, next_open}
use Rattle.laws.specs.Lists.Select.{select_skip}
use Rattle.laws.specs.Lists.Tests.{clash, fails, and_join, and_left, and_right}
use Rattle.laws.specs.Words.Count.{all_marked}
use Rattle.laws.specs.Words.Marks.{length_marked}
use Rattle.laws.specs.Words.Search.{open_law, open_unmarked}
use Rattle.numbers.specs.declared.cell.Cell.{Cell}
use Rattle.words.specs.Search.{open_between}
use Rattle.words.specs.Listed.{first_open, none_open}
use Rattle.sweep.specs.Phases.{is_finalizable, is_due, is_garbage, due_of, garbage_of, Searchable, MarkedUsed, Scratch}

-- the cells that are left are the open ones from `from` on
pub record Searching (kind used marked : List ℕ) (from : ℕ) (rest : List ℕ) : Type 0 where
  pub within : from ≤ length kind
  pub is : rest ≡ open_between used marked from (length kind)

-- a turn of the loop: the found cell is garbage, no cell that it passed by is, and the search goes on behind it
pub record Turn (kind used marked : List ℕ) (from : ℕ) (cell : Cell) (rest : List ℕ) : Type 0 where
  pub inside : cell.0 < length kind
  pub garbage : is_garbage kind (bits_of (length kind) marked) cell.0 ≡ true
  pub garbage_passed : select (is_garbage kind (bits_of (length kind) marked)) cell.0 ≡ select (is_garbage kind (bits_of (length kind) marked)) from
  pub due : (flags : List ℕ) → is_finalizable kind flags cell.0 ≡ is_due kind flags (bits_of (length kind) marked) cell.0
  pub due_passed : (flags : List ℕ)
      → select (is_due kind flags (bits_of (length kind) marked)) cell.0 ≡ select (is_due kind flags (bits_of (length kind) marked)) from
  pub behind : Searching kind used marked (suc cell.0) rest

-- the words of the used cells, written, and those of the marked ones
pub searchable : {kind used used' marks : List ℕ} → Scratch (length kind) used marks → length used' ≡ length used → UsedBits kind used' → Searchable kind used' (marked_of marks)
searchable w e bits = record {
  some = w.unmarked.fits.some;
  room = omega (arith, w.room);
  same = w.same ∙ sym e;
  few = omega (arith, w.few);
  bits = bits;
}

-- after a step of marking
pub searchable_on : {kind used : List ℕ} (marks marks' : List ℕ) → Searchable kind used (marked_of marks) → length marks' ≡ length marks → Searchable kind used (marked_of marks')
searchable_on marks marks' s e = record {
  some = s.some;
  room = s.room;
  same = omega (arith, s.same, length_marked marks, length_marked marks', ap (λ (k : ℕ). k / 2) e);
  few = s.few;
  bits = s.bits;
}

module _ {kind used marked : List ℕ} (s : Searchable kind used marked) where
  pub search_begins : {left : List ℕ} → left ≡ open_between used marked 0 (length kind) → Searching kind used marked 0 left
  search_begins e = record { within = omega arith; is = e }

  -- an open cell is garbage, and no other is
  open_garbage : (c : ℕ) → c < length kind → is_open used marked c ≡ is_garbage kind (bits_of (length kind) marked) c
  open_garbage = open_unmarked kind used marked s.bits

  -- where as many cells are marked as are used, and only these, there is no garbage
  pub garbage_none : MarkedUsed kind marked → occ 1 (bits_of (64 * length marked) marked) ≡ occ 1 (bits_of (64 * length used) used)
      → garbage_of kind (bits_of (length kind) marked) ≡ []
  unfolding select
  garbage_none only same =
      let used-too : (c : ℕ) → bit_of marked c ≡ 1 → bit_of used c ≡ 1 = λ c one.
      let in_use = only c one in
      s.bits c ∙ ap (λ (b : Bool). cond b 0 1) (ne_eqb (get_or kind c 0) 0 (λ e. omega arith)) in
      let none = all_marked marked used (sym s.same) used-too same in
      select_skip (is_garbage kind (bits_of (length kind) marked)) 0 (length kind) (omega arith) (λ d a l. sym (open_garbage d l) ∙ none d)

  module _ (from : ℕ) (within : from ≤ length kind) where
    -- the cells that are passed by
    passed : (p : ℕ → Bool) → ((c : ℕ) → is_garbage kind (bits_of (length kind) marked) c ≡ false → p c ≡ false)
        → select p (next_open used marked from (length kind)) ≡ select p from
    passed p none =
        let r = open_law used marked from (length kind) within in
        select_skip p from (next_open used marked from (length kind)) r.within.0
        (λ d a b. none d (sym (open_garbage d (omega (arith, r.within))) ∙ r.lowest d a b))

    garbage_passed : select (is_garbage kind (bits_of (length kind) marked)) (next_open used marked from (length kind)) ≡ select (is_garbage kind (bits_of (length kind) marked)) from
    garbage_passed = passed (is_garbage kind (bits_of (length kind) marked)) (λ c e. e)

    due_passed : (flags : List ℕ)
        → select (is_due kind flags (bits_of (length kind) marked)) (next_open used marked from (length kind)) ≡ select (is_due kind flags (bits_of (length kind) marked)) from
    due_passed flags = passed (is_due kind flags (bits_of (length kind) marked)) (λ c e. fails _ (λ due. clash (due_garbage flags c due) e))
      where
        due_garbage : (flags : List ℕ) (c : ℕ) → is_due kind flags (bits_of (length kind) marked) c ≡ true → is_garbage kind (bits_of (length kind) marked) c ≡ true
        due_garbage flags c due =
            let object = eqb-true (get_or kind c 0) 1 (and_left (eqb (get_or kind c 0) 1) (eqb (get_or flags c 0) 1) (and_left (is_finalizable kind flags c) _ due)) in
            and_join (ap not (ne_eqb (get_or kind c 0) 0 (λ e. omega arith))) (and_right (is_finalizable kind flags c) _ due)

    -- there is none: every cell was passed by
    found_all : length kind ≤ next_open used marked from (length kind) → next_open used marked from (length kind) ≡ length kind
    found_all none = omega (arith, (open_law used marked from (length kind) within).within)

    -- the cell that is found
    module _ (inside : next_open used marked from (length kind) < length kind) where
      garbage_found : is_garbage kind (bits_of (length kind) marked) (next_open used marked from (length kind)) ≡ true
      garbage_found = sym (open_garbage _ inside) ∙ (open_law used marked from (length kind) within).passes inside

      due_found : (flags : List ℕ)
          → is_finalizable kind flags (next_open used marked from (length kind)) ≡ is_due kind flags (bits_of (length kind) marked) (next_open used marked from (length kind))
      due_found flags =
          let c : ℕ = next_open used marked from (length kind) in
          let unmarked : eqb (get_or (bits_of (length kind) marked) c 0) 0 ≡ true = and_right (not (eqb (get_or kind c 0) 0)) _ garbage_found in
          sym (and-true (is_finalizable kind flags c)) ∙ ap (λ (b : Bool). is_finalizable kind flags c && b) (sym unmarked)

  -- a cell is left
  pub turn : {from : ℕ} {left rest : List ℕ} {cell : Cell} → Searching kind used marked from left → left ≡ cell.0 ∷ rest → Turn kind used marked from cell rest
  turn {from} {cell = cell} a e =
      let first = first_open used marked from (length kind) (sym a.is ∙ e) in
      let at : next_open used marked from (length kind) ≡ cell.0 = sym first.0 in record {
        inside = omega (arith, at, first.1);
        garbage = rw at at (garbage_found from a.within first.1);
        garbage_passed = rw at at (garbage_passed from a.within);
        due = λ flags. rw at at (due_found from a.within first.1 flags);
        due_passed = λ flags. rw at at (due_passed from a.within flags);
        behind = record { within = omega (arith, at, first.1); is = rw at at first.2 };
      }

  -- none is: every cell was passed by
  module _ {from : ℕ} {left : List ℕ} (a : Searching kind used marked from left) (e : left ≡ []) where
    all_passed : next_open used marked from (length kind) ≡ length kind
    all_passed = found_all from a.within (none_open used marked from (length kind) (sym a.is ∙ e))

    pub garbage_ends : select (is_garbage kind (bits_of (length kind) marked)) from ≡ garbage_of kind (bits_of (length kind) marked)
    garbage_ends = sym (garbage_passed from a.within) ∙ ap (select (is_garbage kind (bits_of (length kind) marked))) all_passed

    pub due_ends : (flags : List ℕ) → select (is_due kind flags (bits_of (length kind) marked)) from ≡ due_of kind flags (bits_of (length kind) marked)
    due_ends flags = sym (due_passed from a.within flags) ∙ ap (select (is_due kind flags (bits_of (length kind) marked))) all_passed
