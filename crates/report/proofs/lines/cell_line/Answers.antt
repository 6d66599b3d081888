-- `report::lines::cell_line` meets its contract: two numbers, and the row of the cell. Assumes nothing.
use mathlib.Core.List.{◌++◌}
use mathlib.Core.Path.{◌≡◌}
use mir.Syntax.{w64}
use mir.Val.{to_z, of_z}
use native.Mathlib.Omega.{arith}
use Rattle.std.proofs.lemmas.Int.{ints}
use Rattle.csv_text.specs.Decimal.{field_text}
use Rattle.csv_text.proofs.Written.{wrote_more}
use Rattle.rules.specs.Audit.{cell_row}
use Rattle.rules.specs.AuditReport.{columns, cell_line}
use Rattle.report.specs.Room.{Room}
use Rattle.report.proofs.Texts.{room_first, room_rest}
use Rattle.report.proofs.Widths.{cell_width}
use Rattle.report.proofs.lines.cell_line.Goals as goal

pub put_field-a-requires : goal.put_field-a-requires
unfolding cell_line
put_field-a-requires c =
    let a = c.args in
    let width = cell_width a.heap a.cell a.difference c.ranges.heap.fits c.ranges.cell.fits c.ranges.difference.sfits in
    let room : Room a.out.now a.at (cell_line a.heap a.cell a.difference) = record { enough = omega arith } in
    (room_first (field_text a.cell ++ columns (cell_row a.difference)) room).enough

pub put_field-b-requires : goal.put_field-b-requires
unfolding cell_line
put_field-b-requires c =
    let a = c.args in
    let width = cell_width a.heap a.cell a.difference c.ranges.heap.fits c.ranges.cell.fits c.ranges.difference.sfits in
    let room : Room a.out.now a.at (cell_line a.heap a.cell a.difference) = record { enough = omega arith } in
    let after_one = room_rest (field_text a.cell ++ columns (cell_row a.difference)) c.put_field-a.ensures room in
    (room_first (columns (cell_row a.difference)) after_one).enough

pub put_cell-requires : goal.put_cell-requires
unfolding cell_line
put_cell-requires c =
    let a = c.args in
    let width = cell_width a.heap a.cell a.difference c.ranges.heap.fits c.ranges.cell.fits c.ranges.difference.sfits in
    let room : Room a.out.now a.at (cell_line a.heap a.cell a.difference) = record { enough = omega arith } in
    let after_one = room_rest (field_text a.cell ++ columns (cell_row a.difference)) c.put_field-a.ensures room in
    let wide-is : to_z w64 (of_z w64 c.wide.result) ≡ a.difference = omega (arith, ints) in
    rw wide-is (room_rest (columns (cell_row a.difference)) c.put_field-b.ensures after_one)

pub returns : goal.returns
unfolding cell_line
returns c =
    let a = c.args in
    let width = cell_width a.heap a.cell a.difference c.ranges.heap.fits c.ranges.cell.fits c.ranges.difference.sfits in
    let wide-is : to_z w64 (of_z w64 c.wide.result) ≡ a.difference = omega (arith, ints) in
    let columns-are = rw wide-is at c.put_cell.ensures in
    let line = wrote_more _ _ _ _ _ _ _ _ c.put_field-a.ensures (wrote_more _ _ _ _ _ _ _ _ c.put_field-b.ensures columns-are) in
    record {
      wrote = line;
      upper_bound = omega arith;
    }
