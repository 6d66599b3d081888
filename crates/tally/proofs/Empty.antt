-- Empty references: joined by `|` they are 0.
-- Assumes nothing.
use Prim.Native.Nat.{ℕ, zero, suc, ◌<◌}
use native.Mathlib.Omega.{arith}
use mathlib.Core.List.{List}
use mathlib.Core.Bool.{true, false}
use mathlib.Core.Logic.{◌≢◌}
use mathlib.Core.Path.{◌≡◌, refl, sym}
use lib.Bits.{bit_or, or_add_and, and_le_l, and_le_r}
use lib.Dec.{eqb}
use lib.ListN.{length, get_or}
use borrow.Author.Tests.{eqb-true, eq-eqb}
use Rattle.rules.specs.Lists.{all}
use Rattle.laws.specs.Lists.Tests.{tests_agree, fails, all_all, all_at}

pub or_none : (a b : ℕ) → bit_or a b ≡ 0 → (a ≡ 0) × (b ≡ 0)
or_none a b e = (omega (arith, or_add_and a b, and_le_l a b, and_le_r a b), omega (arith, or_add_and a b, and_le_l a b, and_le_r a b))

pub or_none_3 : (a b c : ℕ) → bit_or (bit_or a b) c ≡ 0 → (a ≡ 0) × (b ≡ 0) × (c ≡ 0)
or_none_3 a b c e =
    let ab = or_none (bit_or a b) c e in
    ((or_none a b ab.0).0, (or_none a b ab.0).1, ab.1)

-- the entries of a list that are all 0, and a list whose entries are
pub zero_at : (l : List ℕ) → all (eqb 0) l ≡ true → (i : ℕ) → i < length l → get_or l i 0 ≡ 0
zero_at l t i m = sym (eqb-true 0 (get_or l i 0) (all_at (eqb 0) l t i m))

pub zero_all : (l : List ℕ) → ((i : ℕ) → i < length l → get_or l i 0 ≡ 0) → all (eqb 0) l ≡ true
zero_all l z = all_all (eqb 0) l (λ i m. eq-eqb 0 (get_or l i 0) (sym (z i m)))

pub four_used : (l : List ℕ) → length l ≡ 4 → get_or l 0 0 ≢ 0 → all (eqb 0) l ≡ false
four_used l size n = fails _ (λ t. n (zero_at l t 0 (omega arith)))

pub four_empty : (l : List ℕ) → length l ≡ 4 → get_or l 0 0 ≡ 0 → eqb (bit_or (bit_or (get_or l 1 0) (get_or l 2 0)) (get_or l 3 0)) 0 ≡ all (eqb 0) l
four_empty l size first =
    tests_agree _ _
    (λ t. let rest = or_none_3 _ _ _ (eqb-true _ 0 t) in zero_all l (λ i m. each rest i (omega arith)))
    (λ t. rw (zero_at l t 1 (omega arith), zero_at l t 2 (omega arith), zero_at l t 3 (omega arith)) refl)
  where
    each : (get_or l 1 0 ≡ 0) × (get_or l 2 0 ≡ 0) × (get_or l 3 0 ≡ 0) → (i : ℕ) → i < 4 → get_or l i 0 ≡ 0
    each f zero m = first
    each f (suc zero) m = f.0
    each f (suc (suc zero)) m = f.1
    each f (suc (suc (suc zero))) m = f.2
    each f (suc (suc (suc (suc i)))) m = absurd (omega arith)
