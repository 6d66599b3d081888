-- `report::cell::put_cell` meets its contract: the side, the difference, and the line's end. Assumes nothing.
use mathlib.Core.List.{◌++◌}
use mir.Facts.{to_z-of_z}
use native.Mathlib.Omega.{arith}
use Rattle.csv_text.proofs.Written.{wrote_more}
use Rattle.rules.specs.AuditReport.{signed_of}
use Rattle.report.specs.Room.{side_text}
use Rattle.report.proofs.Texts.{room_first, room_rest}
use Rattle.report.proofs.Cells.{side_length, cell_end, cell_text}
use Rattle.report.proofs.cell.put_cell.Goals as goal

pub put_side-a-requires : goal.put_side-a-requires
put_side-a-requires c =
    let x = c.args.x in
    let room = rw (cell_text x) at c.requires in
    omega (arith, side_length x, (room_first {x = side_text x} (signed_of x ++ cell_end) room).enough)

pub put_signed-b-requires : goal.put_signed-b-requires
put_signed-b-requires c =
    let x = c.args.x in
    let room = rw (cell_text x) at c.requires in
    let side = rw (to_z-of_z c.ranges.x) at c.put_side-a.ensures in
    rw (to_z-of_z c.ranges.x) (room_first cell_end (room_rest (signed_of x ++ cell_end) side room))

pub put_six-requires : goal.put_six-requires
put_six-requires c =
    let x = c.args.x in
    let room = rw (cell_text x) at c.requires in
    let side = rw (to_z-of_z c.ranges.x) at c.put_side-a.ensures in
    let number = rw (to_z-of_z c.ranges.x) at c.put_signed-b.ensures in
    (room_rest cell_end number (room_rest (signed_of x ++ cell_end) side room)).enough

pub returns : goal.returns
returns c =
    let side = rw (to_z-of_z c.ranges.x) at c.put_side-a.ensures in
    let number = rw (to_z-of_z c.ranges.x) at c.put_signed-b.ensures in
    rw (cell_text c.args.x) (wrote_more _ _ _ _ _ _ _ _ side (wrote_more _ _ _ _ _ _ _ _ number c.put_six.ensures))
