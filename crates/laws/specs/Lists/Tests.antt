-- What it says that a test of the rules passes or fails: and, every, below, all.
-- Assumes nothing.
use Rattle.std.specs.Prelude.{ℕ, zero, suc, ◌≤◌, ◌<◌, List, [], ◌∷◌, ◌⊎◌, ◌≡◌, refl, length, get_or}
use Rattle.std.proofs.Common.{arith, inl, inr, sym, ap, ◌∙◌}
use Rattle.std.proofs.Math.Decide.{ℕ_discrete}
use mathlib.Core.Bool.{Bool, true, false, not, ◌&&◌, ◌||◌}
use Rattle.rules.specs.Lists.{every, all, below}

-- ---- Bool

pub split : (b : Bool) → (b ≡ true) ⊎ (b ≡ false)
split true = inl refl
split false = inr refl

pub clash : {b : Bool} {A : Type 0} → b ≡ true → b ≡ false → A
clash p q = absurd (mathlib.Core.Bool.true≢false (sym p ∙ q))

-- a test that can't pass fails
pub fails : (b : Bool) → (b ≡ true → ⊥) → b ≡ false
fails true n = absurd (n refl)
fails false n = refl

pub refuted : (b : Bool) → (b ≡ true → ⊥) → not b ≡ true
refuted b n = ap not (fails b n)

pub tests_agree : (a b : Bool) → (a ≡ true → b ≡ true) → (b ≡ true → a ≡ true) → a ≡ b
tests_agree true b f g = sym (f refl)
tests_agree false true f g = g refl
tests_agree false false f g = refl

pub and_join : {a b : Bool} → a ≡ true → b ≡ true → (a && b) ≡ true
and_join {a} {b} p q = rw (p, q) refl

pub and_left : (a b : Bool) → (a && b) ≡ true → a ≡ true
and_left true b p = refl
and_left false b p = p

pub and_right : (a b : Bool) → (a && b) ≡ true → b ≡ true
and_right true b p = p
and_right false b p = clash p refl

pub and_no : (a : Bool) {b : Bool} → b ≡ false → (a && b) ≡ false
and_no true e = e
and_no false e = refl

pub or_false : (a b : Bool) → (a || b) ≡ false → (a ≡ false) × (b ≡ false)
or_false true b e = clash refl e
or_false false b e = (refl, e)

-- ---- a number

-- a number that is not positive
pub none_of : (n : ℕ) → (1 ≤ n → ⊥) → n ≡ 0
none_of zero h = refl
none_of (suc n) h = absurd (h (omega arith))

-- ---- a list of tests

abbrev pub Pass : List Bool → Type 0
Pass [] = Unit
Pass (b ∷ l) = (b ≡ true) × Pass l

pub every_pass : (l : List Bool) → every l ≡ true → Pass l
unfolding every
every_pass [] h = tt
every_pass (b ∷ l) h = (and_left b (every l) h, every_pass l (and_right b (every l) h))

pub pass_every : (l : List Bool) → Pass l → every l ≡ true
unfolding every
pass_every [] h = refl
pass_every (b ∷ l) h = and_join h.0 (pass_every l h.1)

pub every_not : (l : List Bool) → (Pass l → ⊥) → every l ≡ false
every_not l n = fails (every l) (λ t. n (every_pass l t))

-- ---- every number below n

pub below_all : (n : ℕ) (p : ℕ → Bool) → ((c : ℕ) → c < n → p c ≡ true) → below n p ≡ true
unfolding below
below_all zero p h = refl
below_all (suc n) p h = and_join (h n (omega arith)) (below_all n p (λ c l. h c (omega arith)))

pub below_at : (n : ℕ) (p : ℕ → Bool) → below n p ≡ true → (c : ℕ) → c < n → p c ≡ true
unfolding below
below_at zero p h c l = absurd (omega arith)
below_at (suc n) p h c l = elim (ℕ_discrete c n) [
  | yes e ↦ ap p e ∙ and_left (p n) (below n p) h
  | no m ↦ below_at n p (and_right (p n) (below n p) h) c (omega arith)
]

-- ---- every entry

pub all_all : (p : ℕ → Bool) (l : List ℕ) → ((i : ℕ) → i < length l → p (get_or l i 0) ≡ true) → all p l ≡ true
unfolding all
all_all p [] h = refl
all_all p (x ∷ l) h = and_join (h 0 (omega arith)) (all_all p l (λ i m. h (suc i) (omega arith)))

pub all_at : (p : ℕ → Bool) (l : List ℕ) → all p l ≡ true → (i : ℕ) → i < length l → p (get_or l i 0) ≡ true
unfolding all
all_at p [] h i m = absurd (omega arith)
all_at p (x ∷ l) h zero m = and_left (p x) (all p l) h
all_at p (x ∷ l) h (suc i) m = all_at p l (and_right (p x) (all p l) h) i (omega arith)

-- tests that pass the same are the same
pub agree : (a b : Bool) → (a ≡ true → b ≡ true) → (b ≡ true → a ≡ true) → a ≡ b
agree true b f g = sym (f refl)
agree false true f g = g refl
agree false false f g = refl
