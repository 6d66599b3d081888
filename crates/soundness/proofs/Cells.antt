-- The tests of one cell, as the code words them: its kind and flags, its count.
-- Assumes nothing.
use Prim.Native.Nat.{ℕ, zero, suc, ◌<◌}
use native.Mathlib.Omega.{arith}
use mathlib.Core.List.{[]}
use mathlib.Core.Bool.{Bool, beq, true, false, not, cond, ◌&&◌, ◌||◌}
use mathlib.Core.Path.{◌≡◌, refl, ap, ◌∙◌}
use lib.Dec.{leb, eqb}
use borrow.Author.Tests.{ne_eqb, le-leb, leb-true, lt-leb}
use Rattle.rules.specs.Lists as Lists
use Rattle.rules.specs.Check.{cell_ok}
use Rattle.laws.specs.Lists.Tests.{tests_agree}
use Rattle.soundness.specs.Tests.{shape_ok, count_matches}

-- ---- kind and flags

flags_high : (f : ℕ) → 3 < f → (((true && eqb f 1) || (eqb f 0 && true)) || (true && eqb f 3)) ≡ (leb f 3 && not (eqb f 2))
flags_high f h = rw (ne_eqb f 0 (λ e. omega arith), ne_eqb f 1 (λ e. omega arith), ne_eqb f 3 (λ e. omega arith), lt-leb f 3 h) refl

kind_flags : (k f : ℕ) → (((eqb k 1 && eqb f 1) || (eqb f 0 && leb k 3)) || (eqb k 1 && eqb f 3)) ≡ cell_ok k f 0 []
unfolding cell_ok Lists.every Lists.all
kind_flags zero f = go (eqb f 0)
  where
    go : (b : Bool) → ((b && true) || false) ≡ (b && true)
    go true = refl
    go false = refl
kind_flags (suc zero) zero = refl
kind_flags (suc zero) (suc zero) = refl
kind_flags (suc zero) (suc (suc zero)) = refl
kind_flags (suc zero) (suc (suc (suc zero))) = refl
kind_flags (suc zero) (suc (suc (suc (suc f)))) = flags_high (suc (suc (suc (suc f)))) (omega arith)
kind_flags (suc (suc k)) f =
    let e : leb (suc (suc k)) 3 ≡ leb k 1 =
    tests_agree _ _ (λ t. le-leb k 1 (omega (arith, leb-true (suc (suc k)) 3 t))) (λ t. le-leb (suc (suc k)) 3 (omega (arith, leb-true k 1 t))) in
    rw (ne_eqb (suc (suc k)) 1 (λ q. omega arith), e) (go (eqb f 0) (leb k 1))
  where
    go : (b l : Bool) → ((b && l) || false) ≡ (l && (b && true))
    go true true = refl
    go true false = refl
    go false true = refl
    go false false = refl

pub shape_code : (k f q : ℕ)
    → ((((eqb k 1 && eqb f 1) || (eqb f 0 && leb k 3)) || (eqb k 1 && eqb f 3)) && (eqb q 0 || (eqb k 1 && eqb f 1))) ≡ shape_ok k f q
unfolding shape_ok
shape_code k f q =
    ap (λ (b : Bool). b && (eqb q 0 || (eqb k 1 && eqb f 1))) (kind_flags k f) ∙ ap (λ (b : Bool). cell_ok k f 0 [] && b) (go (eqb q 0) (eqb k 1 && eqb f 1))
  where
    go : (b x : Bool) → (b || x) ≡ cond b true x
    go true x = refl
    go false x = refl

-- ---- the count

pub count_code : (k n t : ℕ) → (eqb n t && beq (eqb k 0) (eqb n 0)) ≡ count_matches k n t
unfolding count_matches
count_code k n t = ap (λ (b : Bool). eqb n t && b) (go (eqb k 0) (eqb n 0) ∙ ap (cond (eqb k 0) (eqb n 0)) (some n))
  where
    go : (b c : Bool) → beq b c ≡ cond b c (not c)
    go true true = refl
    go true false = refl
    go false true = refl
    go false false = refl

    some : (n : ℕ) → not (eqb n 0) ≡ leb 1 n
    some zero = refl
    some (suc n) = rw (ne_eqb (suc n) 0 (λ e. omega arith), le-leb 1 (suc n) (omega arith)) refl
