-- `steps::call::used_or_zero` meets its contract. Assumes nothing.
use mathlib.Core.Path.{refl}
use Rattle.rules.specs.Asked.{used_or_zero}
use borrow.Author.Tests.{le-leb, lt-leb}
use Rattle.steps.proofs.call.used_or_zero.Goals as goal

pub returns-then-i-used : goal.returns-then-i-used
unfolding used_or_zero
returns-then-i-used c = rw (le-leb _ _ c.if-i-used.true) refl

pub returns-else-i-used : goal.returns-else-i-used
unfolding used_or_zero
returns-else-i-used c = rw (lt-leb _ _ c.if-i-used.false) refl
