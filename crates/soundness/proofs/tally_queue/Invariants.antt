-- `soundness::tally_queue` meets its contract. The invariant, `Queueing`: the entries passed name cells, none twice, and are tallied.
-- Assumes nothing.
use Rattle.soundness.proofs.Queueing.{Queueing}
use Rattle.soundness.proofs.tally_queue.Given as goal

abbrev pub invariant-loop-r : goal.invariant-loop-r
invariant-loop-r l = Queueing l.initial.tally l.entries l.tally l.r-index
