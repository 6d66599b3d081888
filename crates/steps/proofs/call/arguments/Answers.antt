-- `steps::call::arguments` meets its contract: each arm is an entry of the table. Assumes nothing.
use mathlib.Core.Path.{sym}
use mathlib.Core.Logic.{⊎_elim}
use Rattle.rules.specs.Asked.{uses}
use Rattle.laws.specs.Calls.Asked.{uses_three}
use Rattle.steps.proofs.call.arguments.Goals as goal

pub returns-in-6 : goal.returns-in-6
unfolding uses
returns-in-6 c = ⊎_elim (λ e. rw e) (λ e. rw e) c.in-6.is

pub returns-in-2 : goal.returns-in-2
unfolding uses
returns-in-2 c = ⊎_elim (λ e. rw e) (λ e. rw e) c.in-2.is

pub returns-in-3 : goal.returns-in-3
unfolding uses
returns-in-3 c = rw c.in-3.is

pub returns-in_default : goal.returns-in_default
returns-in_default c =
    let rest = c.in_default.in_default-own.rest in
    sym (uses_three _ rest.0.0.1 rest.0.1 rest.1)
