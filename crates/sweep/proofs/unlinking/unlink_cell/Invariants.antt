-- `sweep::unlinking::unlink_cell` meets its contract: the first `k` slots have come off, and the next is counted still. Assumes nothing.
use Prim.Native.Nat.{◌≤◌}
use mathlib.Core.Path.{◌≡◌}
use lib.ListN.{take}
use Rattle.rules.specs.Heap.{slots_of}
use Rattle.rules.specs.Tables.{lent, SameTables}
use Rattle.sweep.specs.Phases.{TakenOff}
use Rattle.sweep.proofs.Unlinks.{with_count}
use Rattle.sweep.proofs.unlinking.unlink_cell.Given as goal

abbrev pub invariant-loop-k : goal.invariant-loop-k
invariant-loop-k l =
    SameTables l.initial.tables l.tables × (l.k ≤ 8) × (lent l.tables ≡ with_count (lent l.initial.tables) l.tables.count.now)
    × TakenOff l.initial.tables.count.now (take l.k (slots_of l.initial.tables.slots.now l.fn.cell.0)) l.tables.count.now
