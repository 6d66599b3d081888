-- `csv_text::reader::digit` meets its contract: the sixth digit and a value above 65,535 make a line to skip, any other digit is taken up. Assumes nothing.
use native.Mathlib.Omega.{arith}
use mathlib.Core.Path.{◌∙◌}
use Rattle.csv_text.proofs.Cases.{sixth_digit, large_value, next_digit}
use Rattle.csv_text.proofs.reader.digit.Goals as goal

pub returns-then-s-ge5 : goal.returns-then-s-ge5
returns-then-s-ge5 c = c.skip.ensures ∙ sixth_digit _ _ (omega arith)

pub returns-in_default : goal.returns-in_default
returns-in_default c =
    c.skip-in_default.ensures ∙ large_value _ _ (omega (arith, c.in_default.ensures, c.from.ensures, c.from-2.ensures))

pub returns : goal.returns
returns c =
    let fits = c.in-Ok.ensures in
    next_digit _ _ _ (omega (arith, fits.1, c.from.ensures, c.from-2.ensures)) (omega arith) (omega (arith, fits))
