-- The decimal digits of a number: one more for each power of ten. Assumes nothing.
use Prim.Native.Nat.{ℕ, zero, suc, ◌+◌, ◌*◌, ◌/◌, ◌%◌, ◌^◌, ◌≤◌, ◌<◌}
use native.Mathlib.Omega.{arith}
use native.Mathlib.Nat.{pow-suc}
use mathlib.Core.Path.{◌≡◌, refl, sym, ◌∙◌}
use mathlib.Core.List.{[], ◌∷◌, ◌++◌}
use mathlib.Core.Bool.{Bool, true, false}
use lib.Dec.{ltb}
use lib.ListN.{length, length-append}
use borrow.Author.Tests.{ltb-true, ltb-false, lt-ltb, le-ltb}
use Rattle.csv_text.specs.Decimal.{digits, decimal_of, field_text, last_text}

pub digits_small : (k n : ℕ) → n < 10 → digits k n ≡ (48 + n) ∷ []
unfolding digits
digits_small zero n h = refl
digits_small (suc k) n h = rw (lt-ltb n 10 h, digits)

pub digits_large : (k n : ℕ) → 10 ≤ n → digits (suc k) n ≡ digits k (n / 10) ++ ((48 + n % 10) ∷ [])
unfolding digits
digits_large k n h = rw (le-ltb n 10 h, digits)

-- fuel makes no difference, once there is enough
digits_enough : (k m n : ℕ) → n ≤ k → n ≤ m → digits k n ≡ digits m n
digits_enough zero m n h g = digits_small zero n (omega arith) ∙ sym (digits_small m n (omega arith))
digits_enough (suc k) zero n h g = digits_small (suc k) n (omega arith) ∙ sym (digits_small zero n (omega arith))
digits_enough (suc k) (suc m) n h g = go (ltb n 10) refl (digits_enough k m (n / 10))
  where
    go : (t : Bool) → ltb n 10 ≡ t → (n / 10 ≤ k → n / 10 ≤ m → digits k (n / 10) ≡ digits m (n / 10)) → digits (suc k) n ≡ digits (suc m) n
    go true e ih = digits_small (suc k) n (ltb-true n 10 e) ∙ sym (digits_small (suc m) n (ltb-true n 10 e))
    go false e ih =
        let large : 10 ≤ n = ltb-false n 10 e in
        rw (digits_large k n large, digits_large m n large, ih (omega arith) (omega arith))

pub decimal_small : (n : ℕ) → n < 10 → decimal_of n ≡ (48 + n) ∷ []
unfolding decimal_of
decimal_small n h = digits_small n n h

pub decimal_large : (n : ℕ) → 10 ≤ n → decimal_of n ≡ decimal_of (n / 10) ++ ((48 + n % 10) ∷ [])
unfolding decimal_of
decimal_large zero h = absurd (omega arith)
decimal_large (suc n) h = rw (digits_large n (suc n) h, digits_enough n (suc n / 10) (suc n / 10) (omega arith) (omega arith))

pub length_small : (n : ℕ) → n < 10 → length (decimal_of n) ≡ 1
length_small n h = rw (decimal_small n h)

pub length_large : (n : ℕ) → 10 ≤ n → length (decimal_of n) ≡ length (decimal_of (n / 10)) + 1
length_large n h = rw (decimal_large n h) (length-append (decimal_of (n / 10)) ((48 + n % 10) ∷ []))

-- one digit more for each power of ten
one_longer : (n k m : ℕ) → (n / 10 < m → length (decimal_of (n / 10)) ≤ k) → 1 ≤ k → n < m * 10 → length (decimal_of n) ≤ k + 1
one_longer n k m ih p h = go (ltb n 10) refl
  where
    go : (t : Bool) → ltb n 10 ≡ t → length (decimal_of n) ≤ k + 1
    go true e = omega (arith, length_small n (ltb-true n 10 e))
    go false e = omega (arith, length_large n (ltb-false n 10 e), ih (omega arith))

-- a number below 10 to the k + 1 has at most k + 1 digits
pub decimal_digits : (k n : ℕ) → n < 10 ^ suc k → length (decimal_of n) ≤ suc k
decimal_digits zero n h = omega (arith, length_small n h)
decimal_digits (suc k) n h =
    let m : n < 10 ^ suc k * 10 = rw (pow-suc 10 (suc k)) at h in
    omega (arith, one_longer n (suc k) (10 ^ suc k) (decimal_digits k (n / 10)) (omega arith) m)

-- and with what stands after it
pub field_width : (k n : ℕ) → n < 10 ^ suc k → length (field_text n) ≤ k + 2
field_width k n h = omega (arith, length-append (decimal_of n) (44 ∷ []), decimal_digits k n h)

pub last_width : (k n : ℕ) → n < 10 ^ suc k → length (last_text n) ≤ k + 3
last_width k n h = omega (arith, length-append (decimal_of n) (13 ∷ 10 ∷ []), decimal_digits k n h)
