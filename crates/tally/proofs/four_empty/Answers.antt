-- `tally::four_empty` meets its contract. The laws are in `Empty`.
-- Assumes nothing.
use mathlib.Core.Path.{sym}
use Rattle.tally.proofs.Empty.{four_used, four_empty}
use Rattle.tally.proofs.four_empty.Goals as goal

pub returns-then-four-ne0 : goal.returns-then-four-ne0
returns-then-four-ne0 c = sym (four_used _ c.told-four c.if-four-ne0.true)

pub returns : goal.returns
returns c = four_empty _ c.told-four c.if-four-ne0.false
