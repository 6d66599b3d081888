-- `report::columns::put_columns` meets its contract: six texts, one after the other. Assumes nothing.
use borrow.Author.Rules.{rules}
use mir.Syntax.{w64}
use mir.Val.{SFits}
use mir.Facts.{to_z-of_z}
use Rattle.csv_text.specs.Decimal.{last_text}
use Rattle.csv_text.proofs.Written.{wrote_more}
use Rattle.rules.specs.AuditReport.{columns}
use Rattle.report.proofs.Texts.{room_first, room_rest, from_at, from_above, from_sum, from_lost}
use Rattle.report.proofs.columns.put_columns.Goals as goal

pub put_field-a-requires : goal.put_field-a-requires
unfolding columns
put_field-a-requires c = (room_first (from_at c.args.row) c.requires).enough

pub put_field-b-requires : goal.put_field-b-requires
unfolding columns
put_field-b-requires c =
    (room_first (from_above c.args.row) (room_rest (from_at c.args.row) c.put_field-a.ensures c.requires)).enough

pub put_field-c-requires : goal.put_field-c-requires
unfolding columns
put_field-c-requires c =
    let after_one = room_rest (from_at c.args.row) c.put_field-a.ensures c.requires in
    (room_first (from_sum c.args.row) (room_rest (from_above c.args.row) c.put_field-b.ensures after_one)).enough

pub put_sum-d-requires : goal.put_sum-d-requires
unfolding columns
put_sum-d-requires c =
    let row = c.args.row in
    let sum : SFits w64 row.sum = search rules in
    let after_one = room_rest (from_at row) c.put_field-a.ensures c.requires in
    let after_two = room_rest (from_above row) c.put_field-b.ensures after_one in
    rw (to_z-of_z sum) (room_first (from_lost row) (room_rest (from_sum row) c.put_field-c.ensures after_two))

pub put_field-e-requires : goal.put_field-e-requires
unfolding columns
put_field-e-requires c =
    let row = c.args.row in
    let sum : SFits w64 row.sum = search rules in
    let after_one = room_rest (from_at row) c.put_field-a.ensures c.requires in
    let after_two = room_rest (from_above row) c.put_field-b.ensures after_one in
    let after-three = room_rest (from_sum row) c.put_field-c.ensures after_two in
    let summed = rw (to_z-of_z sum) at c.put_sum-d.ensures in
    (room_first (last_text row.size) (room_rest (from_lost row) summed after-three)).enough

pub put_last-requires : goal.put_last-requires
unfolding columns
put_last-requires c =
    let row = c.args.row in
    let sum : SFits w64 row.sum = search rules in
    let after_one = room_rest (from_at row) c.put_field-a.ensures c.requires in
    let after_two = room_rest (from_above row) c.put_field-b.ensures after_one in
    let after-three = room_rest (from_sum row) c.put_field-c.ensures after_two in
    let summed = rw (to_z-of_z sum) at c.put_sum-d.ensures in
    (room_rest (last_text row.size) c.put_field-e.ensures (room_rest (from_lost row) summed after-three)).enough

pub returns : goal.returns
unfolding columns
returns c =
    let sum : SFits w64 c.args.row.sum = search rules in
    let summed = rw (to_z-of_z sum) at c.put_sum-d.ensures in
    let last-two = wrote_more _ _ _ _ _ _ _ _ c.put_field-e.ensures c.put_last.ensures in
    let from-three = wrote_more _ _ _ _ _ _ _ _ c.put_field-c.ensures (wrote_more _ _ _ _ _ _ _ _ summed last-two) in
    wrote_more _ _ _ _ _ _ _ _ c.put_field-a.ensures (wrote_more _ _ _ _ _ _ _ _ c.put_field-b.ensures from-three)
