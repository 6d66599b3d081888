-- Each reference counts for one cell at most, and for none where it is lost. Assumes nothing.
use Rattle.std.specs.Prelude.{ℕ, suc, ◌+◌, Bool, true, false, cond, List, [], ◌∷◌, ◌≡◌, refl, leb, eqb}
use Rattle.std.proofs.Common.{arith, leb-true, leb-false, eqb-true}
use Rattle.std.proofs.lemmas.Bool.{eqb-false}
use Rattle.rules.specs.Lists.{occ, dangling}

-- what is lost with n cells counts for the next cell, or is lost with one cell more
pub dangling_next : (n : ℕ) (l : List ℕ) → dangling n l ≡ occ (suc n) l + dangling (suc n) l
unfolding dangling occ
dangling_next n [] = refl
dangling_next n (x ∷ l) = go (leb x n) (eqb (suc n) x) (leb x (suc n)) refl refl refl (dangling_next n l)
  where
    go : (a b c : Bool) → leb x n ≡ a → eqb (suc n) x ≡ b → leb x (suc n) ≡ c → dangling n l ≡ occ (suc n) l + dangling (suc n) l
        → cond a 0 1 + dangling n l ≡ cond b 1 0 + occ (suc n) l + (cond c 0 1 + dangling (suc n) l)
    go true true c p q r ih = absurd (omega (arith, leb-true x n p, eqb-true (suc n) x q))
    go true false true p q r ih = omega arith
    go true false false p q r ih = absurd (omega (arith, leb-true x n p, leb-false x (suc n) r))
    go false true true p q r ih = omega arith
    go false true false p q r ih = absurd (omega (arith, eqb-true (suc n) x q, leb-false x (suc n) r))
    go false false true p q r ih = absurd (omega (arith, leb-false x n p, eqb-false (suc n) x q, leb-true x (suc n) r))
    go false false false p q r ih = omega arith
