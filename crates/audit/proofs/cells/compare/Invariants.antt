-- `audit::cells::compare`: the cells passed have their differences written and added.
-- Assumes nothing.
use Rattle.std.proofs.Common.{length}
use Rattle.audit.specs.Cells.{minus}
use Rattle.audit.proofs.Comparing.{Comparing}
use Rattle.audit.proofs.cells.compare.Given as goal

abbrev pub invariant-loop-c : goal.invariant-loop-c
invariant-loop-c l = Comparing (minus l.count l.counted) (length l.count) l.differences l.sides l.c
