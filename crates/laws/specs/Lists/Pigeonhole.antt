-- Distinct numbers below n are at most n.
-- Assumes nothing.
use Rattle.std.specs.Prelude.{ℕ, zero, suc, ◌+◌, ◌≤◌, ◌<◌, List, [], ◌∷◌, ◌≡◌, refl, length}
use Rattle.std.proofs.Math.Decide.{ℕ_discrete}
use Rattle.std.proofs.Common.{arith, sym, ap, ◌∙◌}
use Rattle.rules.specs.Lists.{occ}
use Rattle.laws.specs.Lists.Occ.{occ_nil, occ_here, occ_same, occ_there, occ_cons}

unfoldable pub total : ℕ → (ℕ → ℕ) → ℕ
total zero f = 0
total (suc n) f = f n + total n f

total_zero : (n : ℕ) → total n (λ x. occ x []) ≡ 0
unfolding total
total_zero zero = refl
total_zero (suc n) = omega (arith, total_zero n, occ_nil n)

total_le : (n : ℕ) (f : ℕ → ℕ) → ((x : ℕ) → f x ≤ 1) → total n f ≤ n
unfolding total
total_le zero f h = omega arith
total_le (suc n) f h = omega (arith, total_le n f h, h n)

total_cons_out : (n y : ℕ) (l : List ℕ) → n ≤ y → total n (λ x. occ x (y ∷ l)) ≡ total n (λ x. occ x l)
unfolding total
total_cons_out zero y l h = refl
total_cons_out (suc n) y l h =
    omega (arith, total_cons_out n y l (omega arith), occ_there n y l (omega arith))

total_cons : (n y : ℕ) (l : List ℕ) → y < n → total n (λ x. occ x (y ∷ l)) ≡ suc (total n (λ x. occ x l))
unfolding total
total_cons zero y l h = omega arith
total_cons (suc n) y l h = elim (ℕ_discrete y n) [
  | yes e ↦ rw e (omega (arith, occ_here n l, total_cons_out n n l (omega arith)))
  | no ne ↦ omega (arith, occ_there n y l (λ e. ne (sym e)), total_cons n y l (omega arith))
]

-- a list of numbers below n is as long as its numbers stand in it
pub length_total : (n : ℕ) (l : List ℕ) → ((x : ℕ) → 1 ≤ occ x l → x < n) → length l ≡ total n (λ x. occ x l)
length_total n [] h = sym (total_zero n)
length_total n (y ∷ l) h =
    ap suc (length_total n l (λ x o. h x (omega (arith, occ_cons x y l)))) ∙ sym (total_cons n y l (h y (omega (arith, occ_here y l))))

pub pigeonhole : (n : ℕ) (l : List ℕ) → ((x : ℕ) → occ x l ≤ 1) → ((x : ℕ) → 1 ≤ occ x l → x < n) → length l ≤ n
pigeonhole n l once small = omega (arith, length_total n l small, total_le n (λ x. occ x l) once)

pub once_cons : (x : ℕ) (l : List ℕ) → occ x l ≡ 0 → ((y : ℕ) → occ y l ≤ 1) → (y : ℕ) → occ y (x ∷ l) ≤ 1
once_cons x l none once y = elim (ℕ_discrete y x) [
  | yes e ↦ omega (arith, occ_same y x l e, ap (λ (z : ℕ). occ z l) e)
  | no n ↦ omega (arith, occ_there y x l n, once y)
]

pub below_cons : (n x : ℕ) (l : List ℕ) → x < n → ((y : ℕ) → 1 ≤ occ y l → y < n) → (y : ℕ) → 1 ≤ occ y (x ∷ l) → y < n
below_cons n x l small below y o = elim (ℕ_discrete y x) [
  | yes e ↦ omega arith
  | no m ↦ below y (omega (arith, occ_there y x l m))
]
