-- `release::decref` meets its contract: a shared reference comes off, and of the last one `refzero` does the rest. Assumes nothing.
use Rattle.release.proofs.Due.{tail_fits, due_named, last_due, came_off_last}
use Rattle.release.proofs.Step.{came_off_shared}
use Rattle.release.proofs.decref.Goals as goal

pub decref_shared-requires : goal.decref_shared-requires
decref_shared-requires c = due_named c.requires

pub returns-then-decref_shared-clause-came_off : goal.returns-then-decref_shared-clause-came_off
returns-then-decref_shared-clause-came_off c =
    came_off_shared _ (tail_fits c.requires) c.decref_shared.ensures c.if-decref_shared.true

pub refzero-requires : goal.refzero-requires
refzero-requires c = last_due c.requires c.decref_shared.ensures c.if-decref_shared.false

pub returns-clause-came_off : goal.returns-clause-came_off
returns-clause-came_off c =
    came_off_last c.requires c.decref_shared.ensures c.if-decref_shared.false c.refzero.ensures.came_off
