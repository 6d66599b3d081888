-- `finalizers::finishing::leave` meets its contract.
-- Assumes nothing.
use native.Mathlib.Omega.{arith}
use Rattle.finalizers.proofs.Leaving.{queue_left}
use Rattle.finalizers.proofs.finishing.leave.Goals as goal

pub returns-clause-left : goal.returns-clause-left
returns-clause-left c =
    queue_left _ _ c.dequeue.ensures.popped (omega (arith, c.index.ensures, c.requires.names_head)) (omega (arith, c.index-2.ensures, c.requires.runs))
