use Rattle.std.proofs.Common.{arith, sym, subst}
use Rattle.std.specs.Io.KnownBytes.{Appends}
use Rattle.std.proofs.lemmas.Result.{on_ok_weaker}
use Rattle.auditor.proofs.Printing.{prints_none, prints_own, prints_all}
use Rattle.auditor.proofs.lines.print.Goals as goal

pub returns-then-size-answer : goal.returns-then-size-answer
returns-then-size-answer g c = prints_none _ _ _ (omega (arith, c.from-size.ensures))

pub returns-then-answer-size : goal.returns-then-answer-size
returns-then-answer-size g c =
    on_ok_weaker c.print_lines.result (subst (Appends _ _) (sym (prints_own _ _ (omega (arith, c.from-size.ensures))))) c.print_lines.ensures

pub returns : goal.returns
returns g c =
    on_ok_weaker c.print_lines-2.result (subst (Appends _ _) (sym (prints_all _ _ (omega (arith, c.from-size.ensures))))) c.print_lines-2.ensures
