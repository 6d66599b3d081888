-- `finalizers::starting::choose` meets its contract: each refusal is one law of START's, and so is that it goes.
-- Assumes nothing.
use Rattle.std.proofs.Common.{arith, ◌∙◌}
use Rattle.laws.specs.Calls.Cases.{start_number, start_taken_lem, start_busy, start_none, start_goes}
use Rattle.answers.proofs.Refusing.{had_none, gave}
use Rattle.finalizers.proofs.Started.{chose_not}
use Rattle.finalizers.proofs.starting.choose.Goals as goal

pub returns-in_err-to-clause-chosen : goal.returns-in_err-to-clause-chosen
returns-in_err-to-clause-chosen c =
    let none = c.in_err-to.ensures.value in
    λ h roots control. chose_not _ _ (gave _ _ none) _ c.from_residual.ensures.1 (start_number _ _ (rw (had_none _ _ none) at c.of.ensures))

pub returns-then-roots-at-ne0-clause-chosen : goal.returns-then-roots-at-ne0-clause-chosen
returns-then-roots-at-ne0-clause-chosen c =
    let to = rw c.in_ok-to.ensures.ok_part at c.of.ensures in
    λ h roots control. start_taken_lem _ _ to.1 (rw (c.index-at.ensures ∙ to.0, ← roots) at c.if-roots-at-ne0.true)

pub returns-then-control-ne0-clause-chosen : goal.returns-then-control-ne0-clause-chosen
returns-then-control-ne0-clause-chosen c =
    let to = rw c.in_ok-to.ensures.ok_part at c.of.ensures in
    λ h roots control.
    start_busy _ _ to.1 (rw (c.index-at.ensures ∙ to.0, ← roots) at c.if-roots-at-ne0.false) (rw (← control) at c.if-control-ne0.true)

pub returns-then-control-eq0-clause-chosen : goal.returns-then-control-eq0-clause-chosen
returns-then-control-eq0-clause-chosen c =
    let to = rw c.in_ok-to.ensures.ok_part at c.of.ensures in
    λ h roots control.
    start_none _ _ to.1 (rw (c.index-at.ensures ∙ to.0, ← roots) at c.if-roots-at-ne0.false) (rw (← control) at c.if-control-ne0.false)
    (rw (← control) at c.if-control-eq0.true)

pub returns-clause-chosen : goal.returns-clause-chosen
returns-clause-chosen c =
    let to = rw c.in_ok-to.ensures.ok_part at c.of.ensures in
    λ h roots control.
    let some = rw (← control) at c.if-control-eq0.false in
    (start_goes _ _ to.1 (rw (c.index-at.ensures ∙ to.0, ← roots) at c.if-roots-at-ne0.false) (rw (← control) at c.if-control-ne0.false) some, to.0, omega (arith, some))
