-- `csv_text::number::put_digits` meets its contract: all digits but the last, then the last. The measure is the number. Assumes nothing.
use native.Mathlib.Omega.{arith}
use Rattle.csv_text.proofs.Decimal.{length_large}
use Rattle.csv_text.proofs.Digits.{room_behind, digit_behind}
use Rattle.csv_text.proofs.number.+put_digits.Goals as goal

pub put_three_digits-last-requires : goal.put_three_digits-last-requires
put_three_digits-last-requires t c =
    (omega (arith, c.requires.0), omega (arith, c.if-n-lt10000.true), omega (arith, length_large c.args.n (omega (arith, c.requires.0)), c.requires.1))

pub put_last_digit-requires : goal.put_last_digit-requires
put_last_digit-requires t c =
    room_behind c.args.n (omega (arith, c.requires.0)) c.put_three_digits-last.ensures c.requires.1

pub put_digits-last-requires : goal.put_digits-last-requires
put_digits-last-requires t c =
    (omega (arith, c.requires), (omega (arith, c.if-n-lt10000.false), omega (arith, length_large c.args.n (omega (arith, c.requires.0)), c.requires.1)))

pub put_last_digit-requires-else-n-lt10000 : goal.put_last_digit-requires-else-n-lt10000
put_last_digit-requires-else-n-lt10000 t c =
    room_behind c.args.n (omega (arith, c.requires.0)) c.put_digits-last.ensures c.requires.1

pub returns-then-n-lt10000 : goal.returns-then-n-lt10000
returns-then-n-lt10000 t c =
    digit_behind c.args.n (omega (arith, c.requires.0)) c.put_three_digits-last.ensures c.put_last_digit.ensures

pub returns-else-n-lt10000 : goal.returns-else-n-lt10000
returns-else-n-lt10000 t c =
    digit_behind c.args.n (omega (arith, c.requires.0)) c.put_digits-last.ensures c.put_last_digit-else-n-lt10000.ensures
