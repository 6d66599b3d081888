-- The seven tables are those of the heap, and the table of differences fits.
use Rattle.std.proofs.Common.{arith}
use Rattle.std.proofs.lemmas.List.{length-take-le}
use Rattle.auditor.proofs.Auditing.{heap_audited, heap_differences}
use Rattle.auditor.proofs.heap.audit_heap.Goals as goal

pub returns-clause-taken : goal.returns-clause-taken
returns-clause-taken c =
    heap_audited _ _ _ _ _ _ _ _ _ _ _ _ _ _ c.table.ensures c.table-2.ensures c.table-3.ensures c.table-4.ensures c.table-5.ensures c.table-6.ensures c.table-7.ensures
    c.cells-n.ensures (length-take-le _ _ (omega arith)) c.audit.ensures.value

pub returns-clause-differences : goal.returns-clause-differences
returns-clause-differences c =
    heap_differences _ _ _ _ _ _ _ _ _ _ _ _ _ _ _ c.table.ensures c.table-2.ensures c.table-3.ensures c.table-4.ensures c.table-5.ensures c.table-6.ensures c.table-7.ensures
    c.audit.ensures.value c.audit.ensures.differences_after
