-- Document 02, Q-4: the report's bytes. "Output is CSV after RFC 4180 with CR LF": no field has a comma, a quote or a line's end in it, so none is quoted.
-- Assumes nothing: these are definitions.
use Rattle.std.specs.Prelude.{ℕ, zero, suc, ◌+◌, ◌≡◌, List, [], ◌∷◌, ◌++◌, map, cond, eqb, ℤ, pos, negsuc, take}
use Rattle.csv_text.specs.Decimal.{decimal_of, field_text, last_text}
use Rattle.rules.specs.declared.audit.Row.{Row}
use Rattle.rules.specs.declared.audit.Report.{Report}
use Rattle.rules.specs.Heap.{cells}
use Rattle.rules.specs.Audit.{difference, cell_row, Lent, admitted, lent_row, empty, refusal_of, audited, report_from, sum_of, Sixteen}

-- heap,cell,below,at,above,sum,lost,size CR LF
abbrev pub header : List ℕ
header =
    104 ∷ 101 ∷ 97 ∷ 112 ∷ 44 ∷ 99 ∷ 101 ∷ 108 ∷ 108 ∷ 44 ∷ 98 ∷ 101 ∷ 108 ∷ 111 ∷ 119 ∷ 44 ∷ 97 ∷ 116 ∷ 44 ∷ 97 ∷ 98 ∷ 111 ∷ 118 ∷ 101 ∷ 44
    ∷ 115 ∷ 117 ∷ 109 ∷ 44 ∷ 108 ∷ 111 ∷ 115 ∷ 116 ∷ 44 ∷ 115 ∷ 105 ∷ 122 ∷ 101 ∷ 13 ∷ 10 ∷ []

-- an integer: its digits, after a minus sign below zero
abbrev pub signed_of : ℤ → List ℕ
signed_of (pos n) = decimal_of n
signed_of (negsuc n) = (45 ∷ []) ++ decimal_of (suc n)

abbrev pub signed_field : ℤ → List ℕ
signed_field x = signed_of x ++ (44 ∷ [])

-- below,at,above,sum,lost,size CR LF
unfoldable pub columns : Row → List ℕ
columns r = field_text r.below ++ (field_text r.at ++ (field_text r.above ++ (signed_field r.sum ++ (field_text r.lost ++ last_text r.size))))

-- of heap k: a cell's line, and "its own line, cell empty"; "last the totals, heap empty too"
unfoldable pub cell_line : ℕ → ℕ → ℤ → List ℕ
cell_line k c d = field_text k ++ (field_text c ++ columns (cell_row d))

unfoldable pub heap_line : ℕ → Row → List ℕ
heap_line k r = field_text k ++ ((44 ∷ []) ++ columns r)

unfoldable pub totals_line : Row → List ℕ
totals_line r = (44 ∷ []) ++ ((44 ∷ []) ++ columns r)

-- the lines of n cells from cell c on, by their differences
unfoldable pub cell_lines : ℕ → (ℕ → ℤ) → ℕ → ℕ → List ℕ
cell_lines k d c zero = []
cell_lines k d c (suc n) = cell_lines k d c n ++ cell_line k (c + n) (d (c + n))

-- "after a heap's cells comes its own line, cell empty, and for a SIZE heap this only"
unfoldable pub heap_text : ℕ → Lent → List ℕ
heap_text k l = cond (admitted l) (cell_lines k (difference l.heap) 0 (cells l.heap)) [] ++ heap_line k (lent_row l)

-- "Heaps count from 1"
unfoldable pub heaps_text : ℕ → List Lent → List ℕ
heaps_text k [] = []
heaps_text k (l ∷ ls) = heap_text k l ++ heaps_text (suc k) ls

-- the whole report; a heap after the first thousand "has no line"
unfoldable pub report_text : List Lent → List ℕ
report_text ls = header ++ (heaps_text 1 (take 1000 ls) ++ totals_line (sum_of (map lent_row (take 1000 ls))))

-- ---- heap by heap, as a report takes them

-- the lines of a report's next heap, which has the next number; one that the report does not take has none
unfoldable pub lines_for : Report → Lent → List ℕ
lines_for p l = cond (eqb (refusal_of p) 0) (heap_text (p.heaps + 1) l) []

unfoldable pub lines_from : Report → List Lent → List ℕ
lines_from p [] = []
lines_from p (l ∷ ls) = lines_for p l ++ lines_from (audited p l).report ls

-- the claim: what is written so, from an empty report on, is the whole report
abbrev pub WritesReport : Type 0
WritesReport = (ls : List Lent) → Sixteen ls → header ++ (lines_from empty ls ++ totals_line (report_from empty ls).totals) ≡ report_text ls
