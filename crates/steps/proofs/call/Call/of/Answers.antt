-- `steps::call::Call::of` meets its contract. Assumes nothing.
use mathlib.Core.Path.{sym, ◌∙◌}
use Rattle.rules.specs.Asked.{call_of}
use Rattle.laws.specs.Calls.Asked.{call_unused}
use Rattle.steps.proofs.call.Call.of.Goals as goal

pub returns-then-not-unused_zero : goal.returns-then-not-unused_zero
returns-then-not-unused_zero c =
    sym (call_unused _ _ _ _ (rw c.arguments.ensures at (sym c.unused_zero.ensures ∙ c.if-not-unused_zero.true)))

pub returns : goal.returns
unfolding call_of
returns c =
    let used = rw c.arguments.ensures at (sym c.unused_zero.ensures ∙ c.if-not-unused_zero.false) in
    rw used c.numbered.ensures
