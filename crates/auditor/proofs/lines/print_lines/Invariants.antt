-- Every piece gets further, and what is written is the front of what there is to write.
use Rattle.std.proofs.Common.{◌+◌, ◌-◌, length}
use Rattle.auditor.proofs.Printing.{Printed}
use Rattle.auditor.proofs.lines.print_lines.Given as goal

abbrev pub invariant-loop-first : goal.invariant-loop-first
invariant-loop-first g l = Printed l.heap l.row l.differences l.first (g.W.Write.contents l.initial.output) (g.W.Write.contents l.output)

abbrev pub decreases-loop-first : goal.decreases-loop-first
decreases-loop-first g l = length l.differences + 1 - l.first
