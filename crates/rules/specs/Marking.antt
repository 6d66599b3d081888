-- Which cells COLLECT marks: those that a table of references reaches, found in rounds.
-- Marks are a list with a number for each cell: 0 unmarked, 1 marked.
-- Assumes nothing: these are definitions.
use Rattle.std.specs.Prelude.{ℕ, zero, suc, List, [], ◌∷◌, length, get_or, set}
use Rattle.rules.specs.Heap.{slots_of}

-- every cell that the table names is marked
unfoldable pub mark : List ℕ → List ℕ → List ℕ
mark m [] = m
mark m (zero ∷ table) = mark m table
mark m (suc c ∷ table) = mark (set m c 1) table

-- the same, where the given mark is not 0
unfoldable pub mark_if : ℕ → List ℕ → List ℕ → List ℕ
mark_if zero m table = m
mark_if (suc s) m table = mark m table

-- the slots of each cell below c that `old` has marked
unfoldable pub spread_from : List ℕ → List ℕ → List ℕ → ℕ → List ℕ
spread_from slots old m zero = m
spread_from slots old m (suc c) = spread_from slots old (mark_if (get_or old c 0) m (slots_of slots c)) c

-- one round: the slots of every marked cell
unfoldable pub spread : List ℕ → List ℕ → List ℕ
spread slots m = spread_from slots m m (length m)

-- so many rounds
unfoldable pub closure : ℕ → List ℕ → List ℕ → List ℕ
closure zero slots m = m
closure (suc n) slots m = closure n slots (spread slots m)

-- the marks m, and what the table reaches: as many rounds as there are cells find it all
unfoldable pub mark_from : List ℕ → List ℕ → List ℕ → List ℕ
mark_from slots m table = closure (length m) slots (mark m table)
