-- A list of conditions that refuse a call or a batch, of which the lowest that is given counts.
-- Assumes nothing.
use Rattle.std.specs.Prelude.{ℕ, ◌≤◌, List, [], ◌∷◌, true, false, ◌⊎◌, ◌≡◌, refl}
use Rattle.std.proofs.Common.{arith, inl, inr, ⊎_elim}
use Rattle.rules.specs.Refusals.{Reason, number, Condition, lowest}
use Rattle.rules.specs.Refusals.Reason.{SIZE, DAMAGED, NUMBER, EMPTY, KIND, TAKEN, FULL, BUSY, NONE, IDLE, LINE, TOTAL}
use Rattle.laws.specs.Lists.Tests.{split, clash}

pub number_some : (k : Reason) → 1 ≤ number k
unfolding number
number_some SIZE = omega arith
number_some DAMAGED = omega arith
number_some NUMBER = omega arith
number_some EMPTY = omega arith
number_some KIND = omega arith
number_some TAKEN = omega arith
number_some FULL = omega arith
number_some BUSY = omega arith
number_some NONE = omega arith
number_some IDLE = omega arith
number_some LINE = omega arith
number_some TOTAL = omega arith

-- none of them is given
abbrev pub Open : List Condition → Type 0
Open [] = Unit
Open (k ∷ l) = (k.given ≡ false) × Open l

pub lowest_open : (l : List Condition) → lowest l ≡ 0 → Open l
unfolding lowest
lowest_open [] e = tt
lowest_open (k ∷ l) e =
    ⊎_elim (λ t. absurd (omega (arith, number_some k.reason, rw t at e))) (λ f. (f, lowest_open l (rw f at e))) (split k.given)

-- each says what a table says, where those before it are not given; `why` is the table's lines for one call or one batch
abbrev pub Judges : (Reason → Type 0) → List Condition → Type 0
Judges why [] = Unit
Judges why (k ∷ l) = (k.given ≡ true → why k.reason) × (k.given ≡ false → Judges why l)

-- a number that refuses by that table, or 0
abbrev pub Verdict : (Reason → Type 0) → ℕ → Type 0
Verdict why n = (n ≡ 0) ⊎ ((k : Reason) × (n ≡ number k) × why k)

pub judged : (why : Reason → Type 0) (l : List Condition) → Judges why l → Verdict why (lowest l)
unfolding lowest
judged why [] j = inl refl
judged why (k ∷ l) j = ⊎_elim (λ t. rw t (inr (k.reason, refl, j.0 t))) (λ f. rw f (judged why l (j.1 f))) (split k.given)

-- one is given, and it and those before it have numbers up to n
abbrev pub Given : ℕ → List Condition → Type 0
Given n [] = ⊥
Given n (k ∷ l) = (number k.reason ≤ n) × ((k.given ≡ true) ⊎ Given n l)

pub lowest_given : (n : ℕ) (l : List Condition) → Given n l → (1 ≤ lowest l) × (lowest l ≤ n)
unfolding lowest
lowest_given n [] g = absurd g
lowest_given n (k ∷ l) g =
    ⊎_elim
    (λ t. rw t (number_some k.reason, g.0))
    (λ f. rw f (lowest_given n l (⊎_elim (λ t. clash t f) (λ r. r) g.1)))
    (split k.given)
