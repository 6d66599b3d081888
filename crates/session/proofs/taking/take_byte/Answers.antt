-- `session::taking::take_byte` meets its contract: a byte that ends a line, or one that does not. Assumes nothing.
use native.Mathlib.Omega.{arith}
use mathlib.Core.Path.{sym, ◌∙◌, ap}
use Rattle.csv_text.specs.Reading.{Step}
use Rattle.session.proofs.Underway.{took_held, took_line}
use Rattle.session.proofs.taking.take_byte.Goals as goal

pub returns-in-Some-clause-byte_taken : goal.returns-in-Some-clause-byte_taken
returns-in-Some-clause-byte_taken c =
    let gave = c.feed-ended.ensures in
    let answer = c.answer in
    took_line _ _ _ _ _ _ _ _ _ (ap (λ (s : Step). s.1) (sym gave) ∙ c.in-Some.is)
    answer.ensures.after (ap (λ (s : Step). s.0) gave) (omega arith) answer.ensures.wrote (omega (arith, answer.ensures.upper_bound))

pub returns-in-None-clause-byte_taken : goal.returns-in-None-clause-byte_taken
returns-in-None-clause-byte_taken c =
    let gave = c.feed-ended.ensures in
    took_held _ _ _ _ _ _ (ap (λ (s : Step). s.1) (sym gave) ∙ c.in-None.is) (ap (λ (s : Step). s.0) gave) (omega arith) (omega arith)
