-- `csv_text::number::put_three_digits` meets its contract: two digits, and the last behind them. Assumes nothing.
use native.Mathlib.Omega.{arith}
use Rattle.csv_text.proofs.Decimal.{length_large}
use Rattle.csv_text.proofs.Digits.{room_behind, digit_behind}
use Rattle.csv_text.proofs.number.put_three_digits.Goals as goal

pub put_two_digits-last-requires : goal.put_two_digits-last-requires
put_two_digits-last-requires c =
    (omega (arith, c.requires.0), omega (arith, c.requires.1), omega (arith, length_large c.args.n (omega (arith, c.requires.0)), c.requires.2))

pub put_last_digit-requires : goal.put_last_digit-requires
put_last_digit-requires c =
    room_behind c.args.n (omega (arith, c.requires.0)) c.put_two_digits-last.ensures c.requires.2

pub returns : goal.returns
returns c =
    digit_behind c.args.n (omega (arith, c.requires.0)) c.put_two_digits-last.ensures c.put_last_digit.ensures
