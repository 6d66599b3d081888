-- `batch::admission::admit_batch` meets its contract: each way out is one law of `batch_refusal`.
-- Assumes nothing.
use native.Mathlib.Omega.{arith}
use mathlib.Core.Path.{◌≡◌, sym, ap, ◌∙◌}
use Rattle.std.specs.Prelude.{Result, Ok, Err, IsErrAnd}
use Rattle.rules.proofs.Refusing.{refuses}
use Rattle.rules.specs.declared.refusal.Refusal.{Refusal}
use Rattle.rules.specs.Refused.{number_of, refused}
use Rattle.laws.specs.Calls.Batch.{lists_fit_of, lists_refused, tables_refused, totals_refused, none_refused}
use Rattle.batch.proofs.admission.admit_batch.Goals as goal

-- a refusal that is handed on has its number
handed_on : (why : Refusal) (r : Result (Unit {0}) Refusal) → IsErrAnd r (λ e. e ≡ why) → refused r ≡ number_of why
handed_on why (Ok a) is = absurd is
handed_on why (Err e) is = ap number_of is

pub returns-then-not-lists_fit : goal.returns-then-not-lists_fit
returns-then-not-lists_fit g c = lists_refused _ _ _ _ (sym c.lists_fit.ensures ∙ c.if-not-lists_fit.true) (omega arith)

pub returns-in_err-admit : goal.returns-in_err-admit
returns-in_err-admit g c =
    handed_on _ c.from_residual.result c.from_residual.ensures.1
    ∙ tables_refused _ _ _ _ (sym c.lists_fit.ensures ∙ c.if-not-lists_fit.false) c.in_err-admit.ensures (refuses _)

pub some_ends-requires : goal.some_ends-requires
some_ends-requires g c = (lists_fit_of _ _ (sym c.lists_fit.ensures ∙ c.if-not-lists_fit.false)).1

pub returns-then-some_ends : goal.returns-then-some_ends
returns-then-some_ends g c =
    totals_refused
    _ _ _ _
    (sym c.lists_fit.ensures ∙ c.if-not-lists_fit.false)
    (sym c.in_ok-admit.ensures)
    (sym c.some_ends.ensures ∙ c.if-some_ends.true)
    (omega arith)

pub returns : goal.returns
returns g c =
    none_refused
    _ _ _ _
    (sym c.lists_fit.ensures ∙ c.if-not-lists_fit.false)
    (sym c.in_ok-admit.ensures)
    (sym c.some_ends.ensures ∙ c.if-some_ends.false)
    (omega arith)
