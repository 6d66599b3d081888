-- `report::lines::totals_line` meets its contract: what stands before the row, and the row. Assumes nothing.
use borrow.Author.Rules.{rules}
use mathlib.Core.List.{[], ◌∷◌, ◌++◌}
use native.Mathlib.Omega.{arith}
use Rattle.csv_text.proofs.Written.{wrote_more}
use Rattle.rules.specs.AuditReport.{columns, totals_line}
use Rattle.report.specs.Room.{Room}
use Rattle.report.proofs.Texts.{room_rest}
use Rattle.report.proofs.Widths.{totals_width}
use Rattle.report.proofs.lines.totals_line.Goals as goal

pub put_row-requires : goal.put_row-requires
unfolding totals_line
put_row-requires c =
    let a = c.args in
    let room : Room a.out.now 0 (totals_line a.row) = record { enough = omega (arith, totals_width a.row (search rules)) } in
    room_rest ((44 ∷ []) ++ columns a.row) c.put_byte-a.ensures room

pub returns : goal.returns
unfolding totals_line
returns c =
    let line = wrote_more _ _ _ _ _ _ _ _ c.put_byte-a.ensures c.put_row.ensures in
    record {
      wrote = line;
      upper_bound = omega (arith, line.end, totals_width c.args.row (search rules));
    }
