-- `tally::tally_each` meets its contract. The invariant, `Tallying`: the entries passed are tallied, and the lost ones counted.
-- Assumes nothing.
use lib.ListN.{length}
use native.Mathlib.Omega.{arith}
use Rattle.tally.proofs.Tallying.{tallying_begin, room_here, tallying_turn_one, tallying_done}
use Rattle.tally.proofs.tally_each.Goals as goal

pub loop-reference-init : goal.loop-reference-init
loop-reference-init c = tallying_begin _ _ _

pub tally_one-lost-requires : goal.tally_one-lost-requires
tally_one-lost-requires c =
    room_here c.loop-reference.invariant (length c.args.references.now) 1 c.requires.0 c.requires.1 (omega arith)

pub loop-reference-preserved : goal.loop-reference-preserved
loop-reference-preserved c =
    tallying_turn_one c.loop-reference.invariant _ _ c.loop-reference-test.true c.tally_one-lost.ensures

pub returns : goal.returns
returns c = tallying_done c.loop-reference.invariant c.loop-reference-test.false
