-- `csv_text::number::put_last_digit` meets its contract: the byte is 48 and the digit. Assumes nothing.
use native.Mathlib.Omega.{arith}
use Rattle.csv_text.proofs.Written.{wrote_same}
use Rattle.csv_text.proofs.number.put_last_digit.Goals as goal

pub returns : goal.returns
returns c = wrote_same c.put_byte.ensures (omega arith)
