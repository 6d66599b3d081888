-- `session::ending::end` meets its contract: nothing is held, there is no room, or the unfinished line is answered. Assumes nothing.
use native.Mathlib.Omega.{arith}
use mathlib.Core.Path.{refl, sym, ◌∙◌}
use Rattle.session.proofs.Underway.{ended_nothing, ended_without_room, ended_line}
use Rattle.session.proofs.ending.end.Goals as goal

pub returns-in_default-clause-ended : goal.returns-in_default-clause-ended
returns-in_default-clause-ended c =
    let held = c.default.ensures.0 in
    ended_nothing _ _ _ _ _ (sym c.end.ensures ∙ c.in_default.is)
    (λ i. record {
      cr = held.0 i;
      field = held.1.0 i;
      digits = held.1.1.0 i;
      a = held.1.1.1.0 i;
      b = held.1.1.1.1.0 i;
      c = held.1.1.1.1.1.0 i;
      d = held.1.1.1.1.1.1 i;
    })
    c.default.ensures.1.0 c.default.ensures.1.1

pub returns-then-out-lt-ANSWER_LEN-clause-ended : goal.returns-then-out-lt-ANSWER_LEN-clause-ended
returns-then-out-lt-ANSWER_LEN-clause-ended c =
    ended_without_room _ _ _ _ _ _ (sym c.end.ensures ∙ c.in-Some.is) (omega arith) refl (omega arith) (omega arith)

pub answer-written-requires : goal.answer-written-requires
answer-written-requires c = record {
  admitted = c.admit-admitted.ensures;
  at_in_bounds = omega arith;
}

pub returns-clause-ended : goal.returns-clause-ended
returns-clause-ended c =
    let answer = c.answer-written in
    ended_line _ _ _ _ _ _ _ _ (sym c.end.ensures ∙ c.in-Some.is) (omega arith)
    answer.ensures.after c.start.ensures refl answer.ensures.wrote answer.ensures.upper_bound
