-- `dump::line::mark` meets its contract. Assumes nothing.
use native.Mathlib.Omega.{arith}
use Rattle.dump.proofs.Held.{at_start}
use Rattle.dump.proofs.Marking.{marks}
use Rattle.dump.proofs.line.mark.Goals as goal

pub returns : goal.returns
returns c = rw (at_start c.default.ensures) (marks _ _ _ _ _ _ (omega arith) (omega arith) (omega arith) (omega arith) (omega arith))
