-- The lines of a heap, in pieces. Assumes nothing.
use Prim.Native.Nat.{ℕ, zero, suc, ◌+◌, ◌-◌, ◌≤◌, ◌<◌}
use native.Mathlib.Omega.{arith}
use mathlib.Core.List.{List, ◌++◌, append_assoc, append-nil}
use mathlib.Core.Path.{◌≡◌, refl, sym, ap, ◌∙◌}
use lib.IntN.{ℤ}
use lib.ListN.{length}
use borrow.Author.Tests.{le-leb, lt-leb}
use Rattle.rules.specs.declared.audit.Row.{Row}
use Rattle.rules.specs.AuditReport.{cell_line, cell_lines, heap_line}
use Rattle.report.specs.Room.{entry}
use Rattle.report.specs.Pieces.{text_from}

-- some cells, and those behind them
lines_split : (k : ℕ) (d : ℕ → ℤ) (c m n : ℕ) → cell_lines k d c (m + n) ≡ cell_lines k d c m ++ cell_lines k d (c + m) n
unfolding cell_lines
lines_split k d c m zero =
    let none : m + 0 ≡ m = omega arith in
    rw (none, append-nil (cell_lines k d c m)) refl
lines_split k d c m (suc n) =
    let more : m + suc n ≡ suc (m + n) = omega arith in
    let place : c + (m + n) ≡ c + m + n = omega arith in
    rw more (ap (λ (l : List ℕ). l ++ cell_line k (c + (m + n)) (d (c + (m + n)))) (lines_split k d c m n)
    ∙ append_assoc (cell_lines k d c m) (cell_lines k d (c + m) n) _
    ∙ ap (λ (x : ℕ). cell_lines k d c m ++ (cell_lines k d (c + m) n ++ cell_line k x (d x))) place)

pub from_cell : (k : ℕ) (row : Row) (ds : List ℤ) (c : ℕ) → c ≤ length ds → text_from k row ds c ≡ cell_lines k (entry ds) c (length ds - c) ++ heap_line k row
unfolding text_from
from_cell k row ds c h = rw (le-leb c (length ds) h) refl

-- a piece of cells
pub rest_cells : (k : ℕ) (row : Row) (ds : List ℤ) (first end : ℕ) → first < end → end ≤ length ds
    → text_from k row ds first ≡ cell_lines k (entry ds) first (end - first) ++ text_from k row ds end
rest_cells k row ds first end l m =
    let d = entry ds in
    let parts : length ds - first ≡ end - first + (length ds - end) = omega arith in
    let place : first + (end - first) ≡ end = omega arith in
    from_cell k row ds first (omega arith)
    ∙ ap (λ (t : List ℕ). t ++ heap_line k row)
    (ap (cell_lines k d first) parts ∙ lines_split k d first (end - first) (length ds - end)
    ∙ ap (λ (x : ℕ). cell_lines k d first (end - first) ++ cell_lines k d x (length ds - end)) place)
    ∙ append_assoc (cell_lines k d first (end - first)) (cell_lines k d end (length ds - end)) (heap_line k row)
    ∙ ap (λ (t : List ℕ). cell_lines k d first (end - first) ++ t) (sym (from_cell k row ds end m))

-- the heap's own line is the last
pub rest_heap : (k : ℕ) (row : Row) (ds : List ℤ) (first next : ℕ) → first ≡ length ds → next ≡ first + 1
    → text_from k row ds first ≡ heap_line k row ++ text_from k row ds next
unfolding text_from cell_lines
rest_heap k row ds first next e f =
    let none : length ds - first ≡ 0 = omega arith in
    rw (le-leb first (length ds) (omega arith), lt-leb next (length ds) (omega arith), none, append-nil (heap_line k row)) refl
