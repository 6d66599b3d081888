-- The lines of a heap, a piece at a time. Assumes nothing: these are definitions.
use Rattle.std.specs.Prelude.{ℕ, suc, ◌-◌, ◌≤◌, ◌<◌, ◌≡◌, List, [], ◌++◌, cond, leb, ℤ, length}
use Rattle.csv_text.specs.Written.{Wrote}
use Rattle.rules.specs.declared.audit.Row.{Row}
use Rattle.rules.specs.AuditReport.{cell_lines, heap_line, totals_line}
use Rattle.report.specs.declared.piece.Piece.{Piece}
use Rattle.report.specs.Room.{entry}

-- what is still to be written of heap k from cell c on: the lines of the cells that are left, and the heap's own; behind that nothing
unfoldable pub text_from : ℕ → Row → List ℤ → ℕ → List ℕ
text_from k row ds c = cond (leb c (length ds)) (cell_lines k (entry ds) c (length ds - c) ++ heap_line k row) []

-- a piece was written: some text, and what follows it is still to be written. With room for a piece it gets further, until nothing is left.
pub record PieceWritten (k : ℕ) (row : Row) (ds : List ℤ) (first : ℕ) (before after : List ℕ) (r : Piece) : Type 0 where
  pub text : List ℕ
  pub wrote : Wrote before 0 text after r.written
  pub rest : text_from k row ds first ≡ text ++ text_from k row ds r.next
  pub further : 4160 ≤ length before → first ≤ length ds → first < r.next
  pub most : first ≤ length ds → r.next ≤ suc (length ds)
  pub fits : r.written ≤ length after

-- the totals were written, or nothing, for want of room
pub record TotalsWritten (row : Row) (before after : List ℕ) (r : ℕ) : Type 0 where
  pub done : 129 ≤ length before → Wrote before 0 (totals_line row) after r
  pub undone : length before < 129 → Wrote before 0 [] after r
  pub fits : r ≤ length after
