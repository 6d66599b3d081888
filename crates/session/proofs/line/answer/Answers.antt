-- `session::line::answer` meets its contract: what four numbers ask for, or a line that is not four numbers. Assumes nothing.
use mathlib.Core.Path.{refl, sym}
use Rattle.rules.specs.Calls.{refuse}
use Rattle.rules.specs.Asked.{obey as obeys}
use Rattle.session.specs.Session.{asked_of, number_of}
use Rattle.answers.proofs.Refusing.{refused_by}
use Rattle.session.proofs.line.answer.Goals as goal

pub returns-in-Ok-clause-after : goal.returns-in-Ok-clause-after
unfolding asked_of
returns-in-Ok-clause-after c =
    let obeyed = rw (c.from.ensures, c.from-in-Ok.ensures, c.from-in-Ok-2.ensures) at c.obey-a.ensures.obeyed in
    rw c.in-Ok.is obeyed.heap

pub returns-in-Ok-clause-wrote : goal.returns-in-Ok-clause-wrote
unfolding asked_of number_of
returns-in-Ok-clause-wrote c =
    let obeyed = rw (c.from.ensures, c.from-in-Ok.ensures, c.from-in-Ok-2.ensures) at c.obey-a.ensures.obeyed in
    rw c.in-Ok.is (rw (sym obeyed.answered) c.write_answer.ensures.wrote)

pub returns-in-Err-clause-after : goal.returns-in-Err-clause-after
unfolding asked_of obeys refuse
returns-in-Err-clause-after c = rw c.in-Err.is refl

pub returns-in-Err-clause-wrote : goal.returns-in-Err-clause-wrote
unfolding asked_of number_of obeys refuse
returns-in-Err-clause-wrote c = rw c.in-Err.is (rw (refused_by c.refuse.ensures) at c.write_answer-in-Err.ensures.wrote)
