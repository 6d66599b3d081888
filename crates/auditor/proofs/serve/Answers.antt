use Rattle.auditor.proofs.Printing.{heap_told}
use Rattle.auditor.proofs.serve.Goals as goal

pub returns-clause-told : goal.returns-clause-told
returns-clause-told g c =
    heap_told _ c.args.room.now _ _ _ _ _ c.audit_heap-answer.ensures.taken c.audit_heap-answer.ensures.differences c.cells-n.ensures c.in_ok-print.ensures
