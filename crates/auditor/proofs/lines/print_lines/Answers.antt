use Rattle.auditor.proofs.Printing.{printed_more, printed_all}
use Rattle.auditor.proofs.lines.print_lines.Goals as goal

pub loop-first-preserved : goal.loop-first-preserved
loop-first-preserved g c =
    printed_more _ _ _ _ _ _ _ _ _ _ c.loop-first.invariant c.write_piece-piece.ensures c.write_piece-piece.auto.out c.in_ok-write.ensures

pub returns : goal.returns
returns g c = printed_all _ _ _ _ _ _ c.loop-first.invariant c.loop-first-test.false
