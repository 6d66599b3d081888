-- `soundness::tally_slots` meets its contract. The invariant, `Slotting`: if nothing is wrong so far, the slots passed are tallied.
-- Assumes nothing.
use Prim.Native.Nat.{◌/◌}
use lib.ListN.{length}
use native.Mathlib.Omega.{arith}
use Rattle.soundness.proofs.Slots.{slots_begin, cell_slots, room_eight, slots_turn, slots_done}
use Rattle.soundness.proofs.tally_slots.Goals as goal

pub loop-c-init : goal.loop-c-init
loop-c-init c =
    slots_begin _ _ _ c.requires.1 c.requires.2

pub tally_cell-wrong-requires : goal.tally_cell-wrong-requires
tally_cell-wrong-requires c =
    (room_eight c.requires.1 c.loop-c.invariant c.loop-c-test.true, omega (arith, c.loop-c.invariant.few))

pub loop-c-preserved : goal.loop-c-preserved
loop-c-preserved c =
    slots_turn
    c.requires.1
    c.loop-c.invariant _ _
    c.loop-c-test.true
    c.tally_cell-wrong.auto.tally
    (rw (c.as_chunks.ensures.front, cell_slots c.args.slots.now (length c.args.slots.now / 8) c.loop-c.c (omega (arith, c.requires.1))) at c.tally_cell-wrong.ensures)

pub returns : goal.returns
returns c = slots_done c.requires.1 c.loop-c.invariant c.loop-c-test.false
