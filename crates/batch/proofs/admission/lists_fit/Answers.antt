-- `batch::admission::lists_fit` meets its contract.
-- Assumes nothing.
use mathlib.Core.Path.{refl}
use borrow.Author.Tests.{eq-eqb, ne_eqb}
use Rattle.rules.specs.Batch.{lists_fit}
use Rattle.batch.proofs.admission.lists_fit.Goals as goal

pub returns-then-records-answers : goal.returns-then-records-answers
unfolding lists_fit
returns-then-records-answers c = rw (eq-eqb _ _ c.if-records-answers.true) refl

pub returns-else-records-answers : goal.returns-else-records-answers
unfolding lists_fit
returns-else-records-answers c = rw (ne_eqb _ _ c.if-records-answers.false) refl
