-- `csv_text::number::put_byte` meets its contract. Assumes nothing.
use Rattle.csv_text.proofs.Written.{wrote_byte}
use native.Mathlib.Omega.{arith}
use Rattle.csv_text.proofs.number.put_byte.Goals as goal

pub returns : goal.returns
returns c = wrote_byte _ _ _ _ _ (omega arith) (omega arith)
