-- `csv_text::reader::in_line` meets its contract: a comma, a digit, or any other byte. Assumes nothing.
use native.Mathlib.Omega.{arith}
use mathlib.Core.Path.{sym, ◌∙◌}
use Rattle.csv_text.proofs.Cases.{line_comma, line_digit, line_other}
use Rattle.csv_text.proofs.reader.in_line.Goals as goal

pub returns-then-byte-eq-COMMA : goal.returns-then-byte-eq-COMMA
returns-then-byte-eq-COMMA c = c.comma.ensures ∙ line_comma _ _ (omega arith)

pub returns-then-is_ascii_digit : goal.returns-then-is_ascii_digit
returns-then-is_ascii_digit c =
    c.digit.ensures ∙ line_digit _ _ (λ e. omega arith) (sym c.if-is_ascii_digit.ensures.value)

pub returns : goal.returns
returns c =
    c.skip.ensures ∙ line_other _ _ (λ e. omega arith) (sym c.if-is_ascii_digit.ensures.value)
