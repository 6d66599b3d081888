-- `allocation::zeroing::zero` meets its contract: a copy of 0 is 0.
-- Assumes nothing.
use Rattle.allocation.proofs.zeroing.zero.Goals as goal

pub returns : goal.returns
returns c = c.fill.ensures.after (λ y e. e)
