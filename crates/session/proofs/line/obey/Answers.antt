-- `session::line::obey` meets its contract: done by the step, or refused. Assumes nothing.
use mathlib.Core.Path.{sym, ◌∙◌}
use Rattle.rules.proofs.Refusing.{refuses}
use Rattle.laws.specs.Calls.Admission.{ready}
use Rattle.laws.specs.Calls.Asked.{never_fresh, obeyed_line, obeyed_refused, no_call_lem}
use Rattle.answers.proofs.Refusing.{refused_by}
use Rattle.session.proofs.line.obey.Goals as goal

pub step-requires : goal.step-requires
step-requires c = ready _ (sym (rw c.in_default.is at c.requires))

pub returns-then-names_call-clause-obeyed : goal.returns-then-names_call-clause-obeyed
returns-then-names_call-clause-obeyed c =
    let named = sym c.names_call.ensures ∙ c.if-names_call.true in
    obeyed_refused _ (never_fresh c.args.op c.args.x c.args.y c.args.z) named (rw c.in-Err.is at c.requires) (refuses _) (refused_by c.refuse.ensures)

pub returns-in-Err-clause-obeyed : goal.returns-in-Err-clause-obeyed
returns-in-Err-clause-obeyed c =
    obeyed_line _ _ _ (no_call_lem _ (sym c.names_call.ensures ∙ c.if-names_call.false)) (refused_by c.refuse-in-Err.ensures)
