-- `release::decref_slots` meets its contract. The loop's invariant is `Going`. Assumes nothing.
use Prim.Native.Nat.{◌+◌, ◌*◌}
use Rattle.rules.specs.Tables.{lent, SameTables}
use Rattle.release.proofs.Run.{Going}
use Rattle.release.proofs.decref_slots.Given as goal

abbrev pub invariant-loop-k : goal.invariant-loop-k
invariant-loop-k l =
    SameTables l.initial.tables l.tables
    × Going (lent l.initial.tables) l.initial.freed l.tail (8 * l.c) (8 * l.c + 8) (lent l.tables) l.freed l.t (8 * l.c + l.k)
