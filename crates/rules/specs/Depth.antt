-- "Marking a cell marks its slots, and a slot its cell, nested at most 16 deep; a cell met at that depth is noted and served by a later scan
-- (the sources' TEMPROOT). The depth shows in no answer": the steps as definitions, which the crate `laws` proves to mark what `Marking` marks.
-- Marks are 0 unmarked, 1 marked, 2 noted.
-- Assumes nothing: these are definitions.
use Rattle.std.specs.Prelude.{ℕ, zero, suc, ◌-◌, List, [], ◌∷◌, Bool, false, not, cond, eqb, ltb, length, get_or, set}
use Rattle.rules.specs.Heap.{slots_of}

-- a step for each reference of a table, one after another
unfoldable pub each : (List ℕ → ℕ → List ℕ) → List ℕ → List ℕ → List ℕ
each step m [] = m
each step m (r ∷ table) = each step (step m r) table

-- does a reference name a cell that is not marked
unfoldable pub to_mark : List ℕ → ℕ → Bool
to_mark m zero = false
to_mark m (suc c) = not (eqb (get_or m c 0) 1)

-- the step for the cell that a reference names, if that is not marked
unfoldable pub if_unmarked : (List ℕ → ℕ → List ℕ) → List ℕ → ℕ → List ℕ
if_unmarked step m r = cond (to_mark m r) (step m (r - 1)) m

-- a cell is marked, and then its slots; with no depth left it is noted
unfoldable pub mark_cell : ℕ → List ℕ → List ℕ → ℕ → List ℕ
mark_cell zero slots m c = set m c 2
mark_cell (suc depth) slots m c = each (if_unmarked (mark_cell depth slots)) (set m c 1) (slots_of slots c)

-- a slot marks its cell
unfoldable pub mark_slot : ℕ → List ℕ → List ℕ → ℕ → List ℕ
mark_slot depth slots = if_unmarked (mark_cell depth slots)

unfoldable pub mark_table : ℕ → List ℕ → List ℕ → List ℕ → List ℕ
mark_table depth slots = each (mark_slot depth slots)

-- the lowest that passes of the k numbers from `from` on, or the number after them
unfoldable pub first_from : (ℕ → Bool) → ℕ → ℕ → ℕ
first_from p from zero = from
first_from p from (suc k) = cond (p from) from (first_from p (suc from) k)

-- the lowest noted cell from lo up to hi, or hi
unfoldable pub noted_between : List ℕ → ℕ → ℕ → ℕ
noted_between m lo hi = first_from (λ c. eqb (get_or m c 0) 2) lo (hi - lo)

-- r where it is below n, or else s where that is below t, or else n
unfoldable pub first_of : ℕ → ℕ → ℕ → ℕ → ℕ
first_of n r t s = cond (ltb r n) r (cond (ltb s t) s n)

-- the noted cell that the scan serves next, from `from` on and round to `from` again, or the number of cells
unfoldable pub next_noted : List ℕ → ℕ → ℕ
next_noted m from = first_of (length m) (noted_between m from (length m)) from (noted_between m 0 from)

-- the scan, for k turns at most: marks the noted cell c, nested as deep again, then the next, until there is none
unfoldable pub scan : ℕ → ℕ → List ℕ → List ℕ → ℕ → List ℕ
scan depth zero slots m c = m
scan depth (suc k) slots m c =
    cond (ltb c (length m)) (scan depth k slots (mark_cell depth slots m c) (next_noted (mark_cell depth slots m c) c)) m

-- all noted cells are served
unfoldable pub scan_all : ℕ → List ℕ → List ℕ → List ℕ
scan_all depth slots m = scan depth (length m) slots m (next_noted m 0)
