-- `dump::line::next` meets its contract: a CR is held back, any other byte is part of the line. Assumes nothing.
use native.Mathlib.Omega.{arith}
use mathlib.Core.Path.{refl}
use Rattle.dump.proofs.Cases.{held_back, line_byte}
use Rattle.dump.proofs.Held.{goes_cr, goes_as}
use Rattle.dump.proofs.line.next.Goals as goal

pub returns-then-byte-eq13 : goal.returns-then-byte-eq13
returns-then-byte-eq13 c = goes_cr refl (λ ts row. held_back _ _ (omega arith))

pub returns : goal.returns
returns c = goes_as c.in_line.ensures (λ ts row. line_byte _ _ (λ z. omega arith))
