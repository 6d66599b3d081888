-- `sweep::queueing::queue_unmarked` meets its contract: the cells that the search passed by have joined the queue where they are due. Assumes nothing.
use Prim.Native.Nat.{ℕ}
use Rattle.rules.specs.Lists.{select}
use Rattle.rules.specs.Tables.{lent, SameTables}
use Rattle.sweep.specs.Phases.{Queued}
use Rattle.sweep.proofs.Searches.{Searching}
use Rattle.sweep.proofs.Joins.{due_in}
use Rattle.sweep.proofs.queueing.queue_unmarked.Given as goal

abbrev pub invariant-loop-cell : goal.invariant-loop-cell
invariant-loop-cell l =
    SameTables l.initial.tables l.tables × (from : ℕ) × Searching l.initial.tables.kind.now l.used l.marked from l.cell-iterator
    × Queued (lent l.initial.tables) (select (due_in (lent l.initial.tables) l.marked) from) (lent l.tables) l.queued
