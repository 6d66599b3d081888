-- What the digits of a number say: that number, with no leading zero. Assumes nothing.
use Prim.Native.Nat.{ℕ, zero, suc, ◌+◌, ◌*◌, ◌-◌, ◌/◌, ◌%◌, ◌≤◌, ◌<◌}
use native.Mathlib.Omega.{arith}
use mathlib.Core.Path.{◌≡◌, refl, sym, ◌∙◌, ap}
use mathlib.Core.List.{List, [], ◌∷◌, ◌++◌}
use mathlib.Core.Bool.{Bool, true, false, ◌&&◌, cond, and-true, and_assoc}
use lib.Dec.{ltb}
use lib.ListN.{length, length-append, get_or-append}
use borrow.Author.Tests.{ltb-true, ltb-false, le-leb}
use Rattle.csv_text.specs.Lines.{all, is_digit, value_from}
use Rattle.csv_text.specs.Decimal.{digits, decimal_of, Spelled, NoLeadingZeros}
use Rattle.csv_text.proofs.Decimal.{digits_small, digits_large}

value_snoc : (n b : ℕ) (f : List ℕ) → value_from n (f ++ (b ∷ [])) ≡ value_from n f * 10 + (b - 48)
unfolding value_from
value_snoc n b [] = refl
value_snoc n b (x ∷ f) = value_snoc (n * 10 + (x - 48)) b f

digits_some : (k n : ℕ) → 0 < length (digits k n)
unfolding digits
digits_some zero n = omega arith
digits_some (suc k) n = go (ltb n 10)
  where
    go : (t : Bool) → 0 < length (cond t ((48 + n) ∷ []) (digits k (n / 10) ++ ((48 + n % 10) ∷ [])))
    go true = omega arith
    go false = omega (arith, length-append (digits k (n / 10)) ((48 + n % 10) ∷ []))

all_snoc : (f : List ℕ) (b : ℕ) → all is_digit (f ++ (b ∷ [])) ≡ (all is_digit f && is_digit b)
unfolding all
all_snoc [] b = and-true (is_digit b)
all_snoc (x ∷ f) b = ap (λ t. is_digit x && t) (all_snoc f b) ∙ sym (and_assoc (is_digit x) (all is_digit f) (is_digit b))

digit_is : (n : ℕ) → n < 10 → is_digit (48 + n) ≡ true
digit_is n h = rw (le-leb 48 (48 + n) (omega arith), le-leb (48 + n) 57 (omega arith))

one_digit : (n : ℕ) → n < 10 → Spelled n ((48 + n) ∷ [])
unfolding value_from all
one_digit n h = record { decimal = rw (digit_is n h); value = omega arith; lead = λ p. omega arith; nought = λ e. rw e }

digits_spelled : (k n : ℕ) → n ≤ k → Spelled n (digits k n)
digits_spelled zero n h = rw (digits_small zero n (omega arith)) (one_digit n (omega arith))
digits_spelled (suc k) n h = go (ltb n 10) refl (digits_spelled k (n / 10))
  where
    go : (t : Bool) → ltb n 10 ≡ t → (n / 10 ≤ k → Spelled (n / 10) (digits k (n / 10))) → Spelled n (digits (suc k) n)
    go true e ih = rw (digits_small (suc k) n (ltb-true n 10 e)) (one_digit n (ltb-true n 10 e))
    go false e ih =
        let large : 10 ≤ n = ltb-false n 10 e in
        let less : Spelled (n / 10) (digits k (n / 10)) = ih (omega arith) in
        rw (digits_large k n large) (record {
          decimal = all_snoc (digits k (n / 10)) (48 + n % 10) ∙ rw (less.decimal, digit_is (n % 10) (omega arith));
          value = value_snoc 0 (48 + n % 10) (digits k (n / 10)) ∙ omega (arith, less.value);
          lead = λ p. rw (get_or-append (digits k (n / 10)) ((48 + n % 10) ∷ []) 0 0 (digits_some k (n / 10))) (less.lead (omega arith));
          nought = λ z. absurd (omega arith);
        })

pub no_leading_zeros : NoLeadingZeros
unfolding decimal_of
no_leading_zeros n = digits_spelled n n (omega arith)
