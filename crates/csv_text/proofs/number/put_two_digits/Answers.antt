-- `csv_text::number::put_two_digits` meets its contract: the first digit, and the last behind it. Assumes nothing.
use Prim.Native.Nat.{◌/◌}
use native.Mathlib.Omega.{arith}
use mathlib.Core.Path.{sym}
use Rattle.csv_text.proofs.Decimal.{length_large}
use Rattle.csv_text.proofs.Digits.{one_digit, room_behind, digit_behind}
use Rattle.csv_text.proofs.number.put_two_digits.Goals as goal

pub put_last_digit-last-requires : goal.put_last_digit-last-requires
put_last_digit-last-requires c =
    omega (arith, length_large c.args.n c.requires.0, c.requires.2)

pub put_last_digit-requires : goal.put_last_digit-requires
put_last_digit-requires c =
    let n = c.args.n in
    room_behind n c.requires.0 (rw (sym (one_digit (n / 10) (omega (arith, c.requires.1)))) at c.put_last_digit-last.ensures) c.requires.2

pub returns : goal.returns
returns c =
    let n = c.args.n in
    digit_behind n c.requires.0 (rw (sym (one_digit (n / 10) (omega (arith, c.requires.1)))) at c.put_last_digit-last.ensures) c.put_last_digit.ensures
