-- `mark_cell` at depth n calls `mark_slot` at n - 1, and that `mark_cell` at the same depth, so the measures are 2n and 2n + 1. The loop of `mark_cell`:
-- the step has been made for the first k slots.
use Rattle.std.proofs.Common.{◌+◌, ◌-◌, ◌*◌, ◌≤◌, take}
use Rattle.rules.specs.Heap.{slots_of}
use Rattle.rules.specs.Depth.{each, mark_slot}
use Rattle.rules.specs.Words.{marks_of}
use Rattle.laws.specs.Words.Marks.{HasMarks}
use Rattle.marking.specs.Steps.{cells_of}
use Rattle.marking.proofs.+mark_cell_mark_slot.Given as goal

abbrev pub decreases-mark_cell : goal.decreases-mark_cell
decreases-mark_cell l = 2 * l.depth

abbrev pub decreases-mark_slot : goal.decreases-mark_slot
decreases-mark_slot l = 2 * l.depth + 1

abbrev pub invariant-mark_cell-loop-k : goal.invariant-mark_cell-loop-k
invariant-mark_cell-loop-k l =
    (l.k ≤ 8)
    × HasMarks (cells_of l.slots) l.marks (each (mark_slot (l.depth - 1) l.slots) (marks_of (cells_of l.slots) l.initial.marks) (take l.k (slots_of l.slots l.cell.0)))
