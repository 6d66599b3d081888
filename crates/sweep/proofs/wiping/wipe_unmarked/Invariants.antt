-- `sweep::wiping::wipe_unmarked` meets its contract: the garbage that the search passed by is free, and listed. Assumes nothing.
use Prim.Native.Nat.{ℕ}
use mathlib.Core.Path.{◌≡◌}
use lib.ListN.{length}
use Rattle.rules.specs.Lists.{select}
use Rattle.rules.specs.Tables.{lent, SameTables}
use Rattle.sweep.specs.Phases.{Freed}
use Rattle.sweep.proofs.Searches.{Searching}
use Rattle.sweep.proofs.Wipes.{garbage_in}
use Rattle.sweep.proofs.wiping.wipe_unmarked.Given as goal

abbrev pub invariant-loop-cell : goal.invariant-loop-cell
invariant-loop-cell l =
    SameTables l.initial.tables l.tables × (from : ℕ) × Searching l.initial.tables.kind.now l.used l.marked from l.cell-iterator
    × Freed (lent l.initial.tables) (select (garbage_in (lent l.initial.tables) l.marked) from) (lent l.tables) l.initial.freed 0 l.freed l.end
    × (length l.freed ≡ length l.initial.freed)
