-- What a call answers that gives up at a `?`.
-- Assumes nothing.
use Rattle.std.proofs.Common.{ℕ, ◌≡◌, Option, Some, None, Result, Ok, Err, ok_or, refl, ap, ◌∙◌}
use Rattle.std.specs.Result.{IsErrAnd}
use Rattle.rules.specs.declared.Answer.{Answer}
use Rattle.rules.specs.declared.refusal.Refusal.{Refusal}
use Rattle.rules.specs.Calls.{answers}
use Rattle.rules.specs.Refused.{number_of, answer_of}

-- where a call passes a reason on, the answer is that reason's
pub passed_on : (why : Refusal) (r : Result Answer Refusal) → IsErrAnd r (λ e. e ≡ why) → answer_of r ≡ answers (number_of why) 0 0 0
passed_on why (Ok a) is = absurd is
passed_on why (Err e) is = rw is refl

module _ {A : Type 0} (o : Option A) (why : Refusal) {given : Refusal} (by : Err given ≡ ok_or o why) where
  -- where `ok_or` gives a reason, there was no value
  pub had_none : o ≡ None
  had_none = none o by
    where
      none : (p : Option A) → Err given ≡ ok_or p why → p ≡ None
      none None e = refl
      none (Some a) e = cc

  -- the reason is the one that `ok_or` was given
  pub gave : given ≡ why
  gave =
      let at : Err given ≡ Err why = rw had_none at by in
      cc

  -- the answer is that of the reason
  pub gave_up : (r : Result Answer Refusal) → IsErrAnd r (λ e. e ≡ given) → answer_of r ≡ answers (number_of why) 0 0 0
  gave_up r is = rw gave at (passed_on given r is)

-- a refusal by its number is that number's answer
pub refused_by : {a : Answer} {n : ℕ} → (a.refused ≡ n) × (a ≡ answers a.refused 0 0 0) → a ≡ answers n 0 0 0
refused_by by = by.1 ∙ ap (λ (x : ℕ). answers x 0 0 0) by.0
