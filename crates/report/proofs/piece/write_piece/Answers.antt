-- `report::piece::write_piece` meets its contract: nothing, some cells and those that are left, or the heap's own line. Assumes nothing.
use native.Mathlib.Omega.{arith}
use Rattle.report.proofs.Pieces.{rest_cells, rest_heap}
use Rattle.report.proofs.piece.write_piece.Goals as goal

pub returns-then-first-cells : goal.returns-then-first-cells
returns-then-first-cells c =
    let first = c.args.first in
    let heap-line = c.heap_line in
    let last = c.if-first-cells.true in
    record {
      text = _;
      wrote = heap-line.ensures.wrote;
      rest = rest_heap _ _ _ first _ last (omega (arith, last));
      further = λ room few. omega (arith, last);
      most = λ few. omega arith;
      fits = omega (arith, heap-line.ensures.upper_bound, heap-line.auto.out, c.if-out-lt-PIECE.false);
    }

pub returns : goal.returns
returns c =
    let first = c.args.first in
    let cell-lines = c.cell_lines in
    let end = c.piece_end-end.ensures in
    record {
      text = _;
      wrote = cell-lines.ensures.wrote;
      rest = rest_cells _ _ _ first _ end.0 end.1;
      further = λ room few. end.0;
      most = λ few. omega (arith, end.1);
      fits = omega (arith, cell-lines.ensures.upper_bound, cell-lines.auto.out, end.2, end.0, c.if-out-lt-PIECE.false);
    }
