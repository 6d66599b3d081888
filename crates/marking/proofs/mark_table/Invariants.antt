-- `marking::mark_table` meets its contract: what the first entries name is marked. Assumes nothing.
use lib.ListN.{take}
use Rattle.rules.specs.Depth.{each, mark_slot}
use Rattle.rules.specs.Words.{marks_of}
use Rattle.laws.specs.Words.Marks.{HasMarks}
use Rattle.marking.specs.Steps.{cells_of}
use Rattle.marking.proofs.mark_table.Given as goal

abbrev pub invariant-loop-reference : goal.invariant-loop-reference
invariant-loop-reference l =
    HasMarks (cells_of l.slots) l.marks
    (each (mark_slot 16 l.slots) (marks_of (cells_of l.slots) l.initial.marks) (take l.reference-index l.table))
