-- `csv_text::number::put_number` meets its contract, by the number of digits. Assumes nothing.
use native.Mathlib.Omega.{arith}
use Rattle.csv_text.proofs.Decimal.{length_small}
use Rattle.csv_text.proofs.Digits.{one_digit}
use Rattle.csv_text.proofs.number.put_number.Goals as goal

pub put_last_digit-requires : goal.put_last_digit-requires
put_last_digit-requires c =
    omega (arith, length_small c.args.n c.if-n-lt10.true, c.requires)

pub returns-then-n-lt10 : goal.returns-then-n-lt10
returns-then-n-lt10 c = rw (one_digit c.args.n c.if-n-lt10.true) c.put_last_digit.ensures

pub put_two_digits-requires : goal.put_two_digits-requires
put_two_digits-requires c = (omega (arith, c.if-n-lt10.false), omega (arith, c.if-n-lt100.true), c.requires)

pub put_three_digits-requires : goal.put_three_digits-requires
put_three_digits-requires c = (omega (arith, c.if-n-lt100.false), omega (arith, c.if-n-lt1000.true), c.requires)

pub put_digits-requires : goal.put_digits-requires
put_digits-requires c = (omega (arith, c.if-n-lt1000.false), c.requires)
