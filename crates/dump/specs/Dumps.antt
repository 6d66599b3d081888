-- Document 02, Q-4: heaps that come as text. What an input says, heap by heap: seven lines each, one for each table, in the order kind, flags, count, slots,
-- roots, queue, control. Lines, fields and numbers are those of the crate csv_text.
-- Assumes nothing: these are definitions.
use Rattle.std.specs.Prelude.{ℕ, List, [], ◌∷◌, ◌++◌, map, cond, eqb, length, get_or, replicate}
use Rattle.csv_text.specs.Lines.{all, lines_of, fields_of, value_of, is_number}
use Rattle.rules.specs.Heap.{Heap, tables}

-- a table that fits no N: it alone is longer than all seven of the largest heap, which have 12 x 1,024 + 66 entries
unfoldable pub unfit : List ℕ
unfit = replicate 12355 0

-- what a line says: the entries of a table, in decimal fields. An empty line is an empty table; any other line fits no N.
unfoldable pub table_of : List ℕ → List ℕ
table_of l = cond (eqb (length l) 0) [] (cond (all is_number (fields_of l)) (map value_of (fields_of l)) unfit)

-- the heap that tables are; one that is missing fits no N
abbrev pub heap_of : List (List ℕ) → Heap
heap_of ts = tables (get_or ts 0 unfit) (get_or ts 1 unfit) (get_or ts 2 unfit) (get_or ts 3 unfit) (get_or ts 4 unfit) (get_or ts 5 unfit) (get_or ts 6 unfit)

-- the heaps of some tables, fewer than seven, and those to come
unfoldable pub heaps_from : List (List ℕ) → List (List ℕ) → List Heap
heaps_from ts [] = cond (eqb (length ts) 0) [] (heap_of ts ∷ [])
heaps_from ts (t ∷ rest) = cond (eqb (length ts) 6) (heap_of (ts ++ (t ∷ [])) ∷ heaps_from [] rest) (heaps_from (ts ++ (t ∷ [])) rest)

-- what the input says, heap by heap
unfoldable pub heaps_of : List ℕ → List Heap
heaps_of input = heaps_from [] (map table_of (lines_of input))
