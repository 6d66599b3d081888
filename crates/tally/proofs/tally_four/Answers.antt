-- `tally::tally_four` meets its contract: four empty references are skipped, others tallied one by one.
-- Assumes nothing.
use mathlib.Core.Path.{sym, ◌∙◌}
use Rattle.tally.proofs.Tallying.{skipped}
use Rattle.tally.proofs.tally_four.Goals as goal

pub returns-then-four_empty : goal.returns-then-four_empty
returns-then-four_empty c = skipped _ _ _ (sym c.four_empty.ensures ∙ c.if-four_empty.true)
