-- `audit::cells::audit_cells` meets its contract: it lends a part of its zeros.
-- Assumes nothing.
use Rattle.std.proofs.Common.{length, arith}
use Rattle.tally.proofs.Scratch.{clear}
use Rattle.audit.proofs.cells.audit_cells.Goals as goal

pub audit_with-requires : goal.audit_with-requires
audit_with-requires c = (c.requires, clear (length c.args.tables.count.now) 1025 (omega (arith, c.requires.most)))
