-- Small tests and counts over lists of numbers, for the rules to be said in.
-- Assumes nothing: these are definitions.
use Rattle.std.specs.Prelude.{ℕ, zero, suc, ◌+◌, List, [], ◌∷◌, ◌++◌, Bool, true, ◌&&◌, cond, leb, eqb}

-- do all these tests pass
unfoldable pub every : List Bool → Bool
every [] = true
every (b ∷ l) = b && every l

-- does every entry pass
unfoldable pub all : (ℕ → Bool) → List ℕ → Bool
all p [] = true
all p (x ∷ l) = p x && all p l

-- does every number below n pass
unfoldable pub below : ℕ → (ℕ → Bool) → Bool
below zero p = true
below (suc n) p = p n && below n p

-- how often x stands in a list
unfoldable pub occ : ℕ → List ℕ → ℕ
occ x [] = 0
occ x (y ∷ l) = cond (eqb x y) 1 0 + occ x l

-- how many references name none of n cells
unfoldable pub dangling : ℕ → List ℕ → ℕ
dangling n [] = 0
dangling n (x ∷ l) = cond (leb x n) 0 1 + dangling n l

-- all the numbers together
unfoldable pub sum : List ℕ → ℕ
sum [] = 0
sum (x ∷ l) = x + sum l

-- does no number stand twice
unfoldable pub distinct : List ℕ → Bool
distinct [] = true
distinct (x ∷ l) = eqb (occ x l) 0 && distinct l

-- the numbers below n that pass, in order
unfoldable pub select : (ℕ → Bool) → ℕ → List ℕ
select p zero = []
select p (suc n) = select p n ++ cond (p n) (n ∷ []) []

-- what a function gives for each number below n, in order
unfoldable pub tabulate : (ℕ → ℕ) → ℕ → List ℕ
tabulate f zero = []
tabulate f (suc n) = tabulate f n ++ (f n ∷ [])
