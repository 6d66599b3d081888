-- `release::drain` meets its contract. The loop's invariant is `Serving`; the measure is the number of cells not yet freed. Assumes nothing.
use Prim.Native.Nat.{◌-◌}
use Rattle.rules.specs.Tables.{lent, SameTables}
use Rattle.release.proofs.Serving.{Serving}
use Rattle.release.proofs.drain.Given as goal

abbrev pub invariant-loop-head : goal.invariant-loop-head
invariant-loop-head l =
    SameTables l.initial.tables l.tables × Serving (lent l.initial.tables) l.initial.freed l.from l.tail (lent l.tables) l.freed l.t l.head

abbrev pub decreases-loop-head : goal.decreases-loop-head
decreases-loop-head l =
    1024 - l.head
