-- `tally::tally_each` meets its contract. The invariant, `Tallying`: the entries passed are tallied, and the lost ones counted.
-- Assumes nothing.
use Rattle.tally.proofs.Tallying.{Tallying}
use Rattle.tally.proofs.tally_each.Given as goal

abbrev pub invariant-loop-reference : goal.invariant-loop-reference
invariant-loop-reference l = Tallying l.initial.tally l.references l.tally l.before l.lost l.reference-index
