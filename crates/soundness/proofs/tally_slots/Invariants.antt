-- `soundness::tally_slots` meets its contract. The invariant, `Slotting`: if nothing is wrong so far, the slots passed are tallied.
-- Assumes nothing.
use Rattle.soundness.proofs.Slots.{Slotting}
use Rattle.soundness.proofs.tally_slots.Given as goal

abbrev pub invariant-loop-c : goal.invariant-loop-c
invariant-loop-c l = Slotting l.initial.tally l.kind l.slots l.tally l.wrong l.c
