-- Demand 1 of whatever answers the number that a test gives, where the test and a table of reasons agree: it is done, or refused by the lowest number of the
-- table that is given, and done exactly where none is given.
-- Assumes nothing.
use Rattle.std.specs.Prelude.{ℕ, ◌≤◌, List, [], ◌∷◌, ◌≢◌, ◌≡◌, refl, get_or}
use Rattle.std.proofs.Math.Decide.{dec_lt}
use Rattle.std.proofs.Common.{arith, inl, inr, ⊎_elim, sym, ap, ◌∙◌, subst}
use Rattle.std.proofs.Math.Logic.{by_cases}
use Rattle.rules.specs.declared.Answer.{Answer}
use Rattle.rules.specs.Refusals.{Reason, number}
use Rattle.rules.specs.Refusals.Reason.{SIZE, DAMAGED, NUMBER, EMPTY, KIND, TAKEN, FULL, BUSY, NONE, IDLE, LINE, TOTAL}
use Rattle.rules.specs.Demand1.{DoneOrRefused}
use Rattle.laws.specs.Calls.Conditions.{number_some, Verdict}

-- the numbers in order, for number 0 a filler: a reason is found by its number
reasons : List Reason
reasons = SIZE ∷ SIZE ∷ DAMAGED ∷ NUMBER ∷ EMPTY ∷ KIND ∷ TAKEN ∷ FULL ∷ BUSY ∷ NONE ∷ IDLE ∷ LINE ∷ TOTAL ∷ []

reason_is : (k : Reason) → get_or reasons (number k) SIZE ≡ k
unfolding number reasons
reason_is SIZE = refl
reason_is DAMAGED = refl
reason_is NUMBER = refl
reason_is EMPTY = refl
reason_is KIND = refl
reason_is TAKEN = refl
reason_is FULL = refl
reason_is BUSY = refl
reason_is NONE = refl
reason_is IDLE = refl
reason_is LINE = refl
reason_is TOTAL = refl

number_same : (j k : Reason) → number j ≡ number k → j ≡ k
number_same j k e = sym (reason_is j) ∙ ap (λ (n : ℕ). get_or reasons n SIZE) e ∙ reason_is k

-- A test that gives a number, and a table of reasons, agree: the number is one that the table gives (`judge`), and where the table gives one it is that or a
-- lower one (`bound`).
pub record Agrees (why : Reason → Type 0) (n : ℕ) : Type 0 where
  pub judge : Verdict why n
  pub bound : (k : Reason) → why k → (1 ≤ n) × (n ≤ number k)

-- Then whoever answers that number is done, or refused with the lowest number that is given
pub agreed : {why : Reason → Type 0} {same : Type 0} {n : ℕ} (answer : Answer) → Agrees why n → answer.refused ≡ n → (n ≢ 0 → same) → DoneOrRefused why same answer
agreed {why} {n = n} answer t at kept = record {
  listed = ⊎_elim (λ z. inl (at ∙ z)) (λ r. inr (r.0, at ∙ r.1)) t.judge;
  -- "Several at once: the lowest number": a number is answered exactly where it is given and no lower one is
  refused = λ k. (
    λ e. record {
      given =
          ⊎_elim
          (λ z. absurd (omega (arith, number_some k)))
          (λ r. subst (λ (j : Reason). why j) (number_same r.0 k (sym r.1 ∙ sym at ∙ e)) r.2)
          t.judge;
      first = λ j l w. omega (arith, (t.bound j w).1);
    },
    λ g. let b = t.bound k g.given in at ∙ ⊎_elim
        (λ z. absurd (omega (arith, b.0)))
        (λ r. by_cases (dec_lt (number r.0) (number k)) (λ l. absurd (g.first r.0 l r.2)) (λ m. omega (arith, r.1, b.1)))
        t.judge,
  );
  done = (λ e k w. omega (arith, (t.bound k w).0), λ none. at ∙ ⊎_elim (λ z. z) (λ r. absurd (none r.0 r.2)) t.judge);
  unchanged = λ m. kept (λ z. m (at ∙ z));
}

-- the same, where a refusal leaves less as it was
pub leaving_less : {why : Reason → Type 0} {same less : Type 0} {answer : Answer} → (same → less) → DoneOrRefused why same answer → DoneOrRefused why less answer
leaving_less f d = record { listed = d.listed; refused = d.refused; done = d.done; unchanged = λ n. f (d.unchanged n) }
