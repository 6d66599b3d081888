-- `audit::audit` meets its contract. Each way out is a law of `Answering`.
-- Assumes nothing.
use Rattle.std.proofs.Common.{sym, ◌∙◌, arith}
use Rattle.rules.proofs.Refusing.{refuses}
use Rattle.audit.proofs.Answering.{refused_answer, refused_table, size_answer, size_table, done_answer, done_table, lengths, row_fits, table_fits, row_small}
use Rattle.audit.proofs.audit.Goals as goal

pub returns-in-Err : goal.returns-in-Err
returns-in-Err c =
    let before = c.args.differences.now in
    let e = c.in-Err.ensures in
    let some = refuses c.in-Err.why in
    record {
      value = refused_answer _ _ before _ e some c.refuse.ensures;
      differences_after = refused_table _ _ before _ e some;
    }

pub returns-then-not-admitted : goal.returns-then-not-admitted
returns-then-not-admitted c =
    let before = c.args.differences.now in
    let takes = sym c.in_default.ensures in
    let out = sym c.admitted.ensures ∙ c.if-not-admitted.true in
    record {
      value = size_answer _ _ before takes out _ (omega arith) c.size_row.ensures c.take.ensures;
      differences_after = size_table _ _ before takes out;
    }

pub audit_cells-row-requires : goal.audit_cells-row-requires
audit_cells-row-requires c = lengths _ c.args.differences.now (sym c.admitted.ensures ∙ c.if-not-admitted.false)

pub take-requires-2 : goal.take-requires-2
take-requires-2 c =
    let fit = sym c.admitted.ensures ∙ c.if-not-admitted.false in
    (sym c.in_default.ensures, row_small _ c.args.differences.now fit c.audit_cells-row.ensures)

pub returns : goal.returns
returns c =
    let before = c.args.differences.now in
    let takes = sym c.in_default.ensures in
    let fit = sym c.admitted.ensures ∙ c.if-not-admitted.false in
    let cells = c.audit_cells-row.ensures in
    record {
      value = done_answer _ _ before takes fit _ (omega arith) (row_fits _ before fit cells) c.take-2.ensures;
      differences_after = done_table _ _ before takes fit _ (table_fits _ before fit cells);
    }
