-- `steps::call::unused_zero` meets its contract. Assumes nothing.
use mathlib.Core.Bool.{◌&&◌}
use Rattle.rules.specs.Asked.{unused_zero}
use Rattle.steps.proofs.call.unused_zero.Goals as goal

pub returns : goal.returns
unfolding unused_zero
returns c = λ i. (c.used_or_zero-first.ensures i && c.used_or_zero-second.ensures i) && c.used_or_zero-third.ensures i
