-- `csv_text::reader::next` meets its contract: a CR is held back, any other byte is part of the line. Assumes nothing.
use native.Mathlib.Omega.{arith}
use mathlib.Core.Path.{◌∙◌}
use Rattle.csv_text.proofs.Cases.{held_back, line_byte}
use Rattle.csv_text.proofs.reader.next.Goals as goal

pub returns-then-byte-eq13 : goal.returns-then-byte-eq13
returns-then-byte-eq13 c = held_back _ _ (omega arith)

pub returns : goal.returns
returns c = c.in_line.ensures ∙ line_byte _ _ (λ e. omega arith)
