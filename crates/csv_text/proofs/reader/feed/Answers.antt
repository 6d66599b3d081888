-- `csv_text::reader::feed` meets its contract: LF after CR ends the line; any other byte after CR makes it one to skip. Assumes nothing.
use native.Mathlib.Omega.{arith}
use Rattle.csv_text.proofs.Cases.{fed_plain, fed_line_end, fed_lone_cr}
use Rattle.csv_text.proofs.reader.feed.Goals as goal

pub returns-then-s-eq0 : goal.returns-then-s-eq0
returns-then-s-eq0 c = rw c.next.ensures (fed_plain _ _ (omega arith))

pub returns-then-byte-eq10 : goal.returns-then-byte-eq10
returns-then-byte-eq10 c = rw (c.start.ensures, c.said.ensures) (fed_line_end _ _ (λ e. omega arith) (omega arith))

pub returns : goal.returns
returns c = rw (c.next-2.ensures, c.skip.ensures) (fed_lone_cr _ _ c.if-s-eq0.false c.if-byte-eq10.false)
