-- `audit::cells::audit_with` meets its contract: references are tallied, then compared with the stored counts. The laws are in `Counting`.
-- Assumes nothing.
use Rattle.std.proofs.Common.{◌∙◌}
use Rattle.audit.proofs.Counting.{cells_listed, cells_row}
use Rattle.audit.proofs.cells.audit_with.Goals as goal

pub row_of-requires : goal.row_of-requires
row_of-requires c =
    let pre = c.requires in
    ((cells_row pre.0 pre.1 c.tally_three-lost.ensures c.compare-sides.ensures.sides).0, pre.0.most)

pub returns : goal.returns
returns c =
    let pre = c.requires in
    let tallied = c.tally_three-lost.ensures in
    let compared = c.compare-sides.ensures in
    record {
      table = compared.table ∙ cells_listed pre.0 pre.1 tallied;
      row = c.row_of.ensures ∙ (cells_row pre.0 pre.1 tallied compared.sides).1;
      sixteen = compared.sixteen;
    }
