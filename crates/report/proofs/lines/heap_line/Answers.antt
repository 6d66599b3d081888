-- `report::lines::heap_line` meets its contract: what stands before the row, and the row. Assumes nothing.
use borrow.Author.Rules.{rules}
use mathlib.Core.List.{[], ◌∷◌, ◌++◌}
use native.Mathlib.Omega.{arith}
use Rattle.csv_text.proofs.Written.{wrote_more}
use Rattle.rules.specs.AuditReport.{columns, heap_line}
use Rattle.report.specs.Room.{Room}
use Rattle.report.proofs.Texts.{room_first, room_rest}
use Rattle.report.proofs.Widths.{heap_width}
use Rattle.report.proofs.lines.heap_line.Goals as goal

pub put_field-a-requires : goal.put_field-a-requires
unfolding heap_line
put_field-a-requires c =
    let a = c.args in
    let room : Room a.out.now 0 (heap_line a.heap a.row) = record { enough = omega (arith, heap_width a.heap a.row c.ranges.heap.fits (search rules)) } in
    (room_first ((44 ∷ []) ++ columns a.row) room).enough

pub put_row-requires : goal.put_row-requires
unfolding heap_line
put_row-requires c =
    let a = c.args in
    let room : Room a.out.now 0 (heap_line a.heap a.row) = record { enough = omega (arith, heap_width a.heap a.row c.ranges.heap.fits (search rules)) } in
    room_rest ((44 ∷ []) ++ columns a.row) c.put_field-a.ensures room

pub returns : goal.returns
unfolding heap_line
returns c =
    let line = wrote_more _ _ _ _ _ _ _ _ c.put_field-a.ensures c.put_row.ensures in
    record {
      wrote = line;
      upper_bound = omega (arith, line.end, heap_width c.args.heap c.args.row c.ranges.heap.fits (search rules));
    }
