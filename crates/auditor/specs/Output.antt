-- Document 02, Q-4, as a program: what it writes for the heaps of an input. Assumes nothing: these are definitions.
use Rattle.std.specs.Prelude.{ℕ, ◌≡◌, List, [], ◌++◌, map, true, false}
use Rattle.rules.specs.Heap.{Heap, cells}
use Rattle.rules.specs.Audit.{differences, Lent, admitted, lent_row, empty, report_from}
use Rattle.rules.specs.AuditReport.{header, heap_text, totals_line, report_text, lines_from}
use Rattle.report.specs.Pieces.{text_from}
use Rattle.dump.specs.Dumps.{heaps_of}
use Rattle.dump.specs.Reading.{start_state, given}

-- the program lends a table of differences that fits
abbrev pub whole : Heap → Lent
whole h = record { heap = h; room = cells h }

-- header, the lines of each heap as its report takes it, and the totals; the heaps are those that the reader gives
unfoldable pub output_for : List Heap → List ℕ
output_for hs = header ++ (lines_from empty (map whole hs) ++ totals_line (report_from empty (map whole hs)).totals)

-- the claim: that is the report over the heaps of the input
abbrev pub WritesOutput : Type 0
WritesOutput = (input : List ℕ) → output_for (given start_state input) ≡ report_text (map whole (heaps_of input))

-- ---- a heap's lines, in the pieces that they are written in

-- from its table of differences, or from an empty one where the heap is refused SIZE, the pieces make up the heap's lines
pub record PiecesAreLines (k : ℕ) (h : Heap) : Type 0 where
  pub done : admitted (whole h) ≡ true → text_from k (lent_row (whole h)) (differences h) 0 ≡ heap_text k (whole h)
  pub size : admitted (whole h) ≡ false → text_from k (lent_row (whole h)) [] 0 ≡ heap_text k (whole h)
