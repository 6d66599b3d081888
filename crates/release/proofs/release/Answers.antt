-- `release::release` meets its contract: the reference comes off, and the work list is served. Assumes nothing.
use Rattle.release.proofs.Released.{first_due, drainable, then_drain}
use Rattle.release.proofs.release.Goals as goal

pub decref-tail-requires : goal.decref-tail-requires
decref-tail-requires c = first_due c.requires.releasable _ c.requires.kind_in_bounds

pub drain-requires : goal.drain-requires
drain-requires c =
    let decref = c.decref-tail in
    drainable c.requires.releasable decref.ensures.came_off decref.ensures.others_stay c.requires.kind_in_bounds decref.auto.freed

pub returns-clause-listed : goal.returns-clause-listed
returns-clause-listed c =
    let decref = c.decref-tail in
    then_drain c.requires.releasable decref.ensures.came_off decref.ensures.others_stay c.requires.kind_in_bounds decref.auto.freed c.drain.ensures.drained
