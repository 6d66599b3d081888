-- `sweep::unlinking::unlink_unmarked` meets its contract: the slots of the garbage that the search passed by have come off. Assumes nothing.
use Prim.Native.Nat.{ℕ}
use mathlib.Core.Path.{◌≡◌}
use Rattle.rules.specs.Lists.{select}
use Rattle.rules.specs.Tables.{lent, SameTables}
use Rattle.rules.specs.Collect.{unlink_all}
use Rattle.sweep.proofs.Searches.{Searching}
use Rattle.sweep.proofs.Unlinks.{garbage_in}
use Rattle.sweep.proofs.unlinking.unlink_unmarked.Given as goal

abbrev pub invariant-loop-cell : goal.invariant-loop-cell
invariant-loop-cell l =
    SameTables l.initial.tables l.tables × (from : ℕ) × Searching l.initial.tables.kind.now l.used l.marked from l.cell-iterator
    × (lent l.tables ≡ unlink_all (lent l.initial.tables) (select (garbage_in (lent l.initial.tables) l.marked) from))
