-- `report::lines::cell_lines` meets its contract: a line for each cell, one after another. Assumes nothing.
use borrow.Author.Rules.{rules}
use lib.IntN.{pos}
use lib.ListN.{get_or}
use mir.Facts.{to_z-of_z}
use mir.Syntax.{w32}
use mir.Val.{SFits}
use native.Mathlib.Omega.{arith}
use Rattle.report.proofs.Writing.{begin, turn}
use Rattle.report.proofs.lines.cell_lines.Goals as goal

pub loop-c-init : goal.loop-c-init
loop-c-init c = begin _ _ _ _ _ _ (omega arith) c.requires.0

pub loop-c-preserved : goal.loop-c-preserved
loop-c-preserved c =
    let loop = c.loop-c in
    let fits : SFits w32 (get_or c.args.differences.now loop.c (pos 0)) = search rules in
    turn loop.invariant _ _ c.loop-c-test.true (rw (to_z-of_z fits) at c.cell_line-at.ensures.wrote) c.cell_line-at.ensures.upper_bound
