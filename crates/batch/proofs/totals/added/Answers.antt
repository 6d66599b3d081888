-- `batch::totals::added` meets its contract.
-- Assumes nothing.
use native.Mathlib.Omega.{arith}
use Rattle.batch.proofs.Raising.{one_done, one_refused}
use Rattle.batch.proofs.totals.added.Goals as goal

pub returns-then-a-eq-DONE : goal.returns-then-a-eq-DONE
returns-then-a-eq-DONE c = one_done _ _ c.if-a-eq-DONE.true (omega arith) (omega arith) (omega arith) (omega arith)

pub returns : goal.returns
returns c = one_refused _ _ c.if-a-eq-DONE.false (omega arith) (omega arith) (omega arith) (omega arith)
