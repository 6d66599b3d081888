-- `audit::cells::tally_three` meets its contract: three tables, one after another. Before each there is room for what is left.
-- Assumes nothing.
use Rattle.std.proofs.Common.{◌+◌, ◌++◌, length, arith}
use Rattle.tally.proofs.Appending.{tallies_append, room_then, room_for}
use Rattle.audit.proofs.cells.tally_three.Goals as goal

pub tally_all-b-requires : goal.tally_all-b-requires
tally_all-b-requires c =
    let left = length c.args.tables.slots.now + length c.args.tables.queue.now in
    room_for _ left _ (omega arith) (room_then c.args.tables.roots.now 0 _ left c.tally_all-a.ensures (c.requires.0, omega arith))

pub tally_all-requires : goal.tally_all-requires
tally_all-requires c =
    let slots = c.args.tables.slots.now in
    let queue = c.args.tables.queue.now in
    room_for _ (length queue) _ (omega arith)
    (room_then slots _ _ (length queue) c.tally_all-b.ensures
    (room_then c.args.tables.roots.now 0 _ (length slots + length queue) c.tally_all-a.ensures (c.requires.0, omega arith)))

pub returns : goal.returns
returns c =
    let slots = c.args.tables.slots.now in
    let queue = c.args.tables.queue.now in
    tallies_append c.args.tables.roots.now (slots ++ queue) 0 _ _ c.tally_all-a.ensures
    (tallies_append slots queue _ _ _ c.tally_all-b.ensures c.tally_all.ensures)
