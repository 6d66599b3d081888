-- `finalizers::finishing::dequeue` meets its contract.
-- Assumes nothing.
use Rattle.rules.specs.Tables.{lent}
use Rattle.finalizers.proofs.Popping.{popped}
use Rattle.finalizers.proofs.finishing.dequeue.Goals as goal

pub returns-clause-popped : goal.returns-clause-popped
returns-clause-popped c =
    let copied = c.copy_within.ensures in
    popped (lent c.args.tables.now) c.requires _ copied.len c.from-end.ensures copied.by_index.0 copied.by_index.2
