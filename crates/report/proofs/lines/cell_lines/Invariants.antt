-- `report::lines::cell_lines` meets its contract: a line for each cell, one after another. Assumes nothing.
use Rattle.report.specs.Room.{entry}
use Rattle.report.proofs.Writing.{Writing}
use Rattle.report.proofs.lines.cell_lines.Given as goal

abbrev pub invariant-loop-c : goal.invariant-loop-c
invariant-loop-c l = Writing l.initial.out l.heap (entry l.differences) l.first l.end l.out l.at l.c
