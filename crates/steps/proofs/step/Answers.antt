-- `steps::step` meets its contract. Assumes nothing.
use mathlib.Core.Path.{sym, ap, ◌∙◌}
use Rattle.laws.specs.Calls.Asked.{obeyed_line}
use Rattle.steps.specs.Call.{asked}
use Rattle.answers.proofs.Refusing.{refused_by}
use Rattle.steps.proofs.step.Goals as goal

pub returns-in_default-clause-obeyed : goal.returns-in_default-clause-obeyed
returns-in_default-clause-obeyed c =
    obeyed_line _ _ _ (sym c.of.ensures ∙ ap asked c.in_default.is) (refused_by c.refuse.ensures)

pub returns-clause-obeyed : goal.returns-clause-obeyed
returns-clause-obeyed c =
    rw (ap asked (sym c.in-Some.is) ∙ c.of.ensures, sym c.answered.ensures) at c.obey.ensures.obeyed
