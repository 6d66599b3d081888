-- `dump::field::digit` meets its contract: the sixth digit and a value above 65,535 spoil the heap, any other digit is taken up. Assumes nothing.
use native.Mathlib.Omega.{arith}
use mathlib.Core.Path.{sym, ◌∙◌}
use Rattle.dump.proofs.Cases.{sixth_digit, large_value, next_digit}
use Rattle.dump.proofs.field.digit.Goals as goal

pub returns-then-digits-ge-DIGITS_MAX : goal.returns-then-digits-ge-DIGITS_MAX
returns-then-digits-ge-DIGITS_MAX c = c.spoil.ensures ∙ sym (sixth_digit _ _ (omega arith))

pub returns-in_default : goal.returns-in_default
returns-in_default c =
    c.spoil-in_default.ensures ∙ sym (large_value _ _ (omega (arith, c.in_default.ensures, c.from.ensures, c.from-2.ensures)))

pub returns : goal.returns
returns c =
    let fits = c.in-Ok.ensures in
    next_digit _ _ _ _ (omega arith) (omega (arith, fits.1, c.from.ensures, c.from-2.ensures)) (omega arith) (omega (arith, fits))
