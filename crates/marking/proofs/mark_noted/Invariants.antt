-- `marking::mark_noted` meets its contract. Each turn marks a noted cell, and no cell loses its mark. Assumes nothing.
use Prim.Native.Nat.{ℕ, ◌-◌}
use mathlib.Core.Path.{◌≡◌}
use lib.ListN.{length}
use Rattle.numbers.specs.Numbers.{AsCell}
use Rattle.rules.specs.Lists.{occ}
use Rattle.rules.specs.Words.{marks_of}
use Rattle.laws.specs.Marking.Scan.{Scanning}
use Rattle.laws.specs.Words.Marks.{WordsFor}
use Rattle.marking.specs.Steps.{cells_of}
use Rattle.marking.proofs.mark_noted.Given as goal

-- the scan goes on from the cell `next`, or is at its end
abbrev pub invariant-loop-next : goal.invariant-loop-next
invariant-loop-next l =
    (c : ℕ) × AsCell c (cells_of l.slots) l.next × WordsFor (cells_of l.slots) l.marks × (length l.marks ≡ length l.initial.marks)
    × Scanning 16 l.slots (marks_of (cells_of l.slots) l.initial.marks) (marks_of (cells_of l.slots) l.marks) c

abbrev pub decreases-loop-next : goal.decreases-loop-next
decreases-loop-next l = cells_of l.slots - occ 1 (marks_of (cells_of l.slots) l.marks)
