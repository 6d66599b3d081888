-- `dump::line::in_line` meets its contract: a comma, a digit, or any other byte; and any byte of a heap that can fit no N. Assumes nothing.
use native.Mathlib.Omega.{arith}
use mathlib.Core.Path.{sym}
use Rattle.dump.proofs.Cases.{line_spoilt, line_comma, line_digit, line_other}
use Rattle.dump.proofs.Held.{goes_spoiled, goes_digit, goes_as}
use Rattle.dump.proofs.line.in_line.Goals as goal

pub returns-then-reader : goal.returns-then-reader
returns-then-reader c = goes_spoiled c.spoil.ensures (λ ts row. line_spoilt _ _ c.if-reader.true)

pub returns-then-byte-eq-COMMA : goal.returns-then-byte-eq-COMMA
returns-then-byte-eq-COMMA c = goes_as c.store.ensures (λ ts row. line_comma _ _ c.if-reader.false (omega arith))

pub returns-then-is_ascii_digit : goal.returns-then-is_ascii_digit
returns-then-is_ascii_digit c =
    goes_digit _ c.digit.ensures
    (λ ts row. line_digit _ _ c.if-reader.false (λ z. omega arith) (sym c.if-is_ascii_digit.ensures.value))

pub returns : goal.returns
returns c =
    goes_spoiled c.spoil-2.ensures
    (λ ts row. line_other _ _ c.if-reader.false (λ z. omega arith) (sym c.if-is_ascii_digit.ensures.value))
