-- `audit::reports::take` meets its contract: a report that takes a heap has room for one more.
-- Assumes nothing.
use Rattle.std.proofs.Common.{arith}
use Rattle.audit.proofs.Reporting.{taking}
use Rattle.audit.proofs.reports.take.Goals as goal

pub plus-totals-requires : goal.plus-totals-requires
plus-totals-requires c = ((taking c.args.report c.requires.0).1, c.requires.1)

pub overflow_add-next : goal.overflow_add-next
overflow_add-next c = omega (arith, (taking c.args.report c.requires.0).0)
