-- `tally::tally_all` meets its contract. The invariant, `Tallying`: the fours passed are tallied, and the lost references counted.
-- Assumes nothing.
use Prim.Native.Nat.{◌*◌}
use Rattle.tally.proofs.Tallying.{Tallying}
use Rattle.tally.proofs.tally_all.Given as goal

abbrev pub invariant-loop-four : goal.invariant-loop-four
invariant-loop-four l = Tallying l.initial.tally l.references l.tally l.before l.lost (4 * l.four-index)
