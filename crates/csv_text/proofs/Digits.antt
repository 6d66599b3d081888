-- A number is written digit by digit: the last one behind the number that the others are. Assumes nothing.
use Prim.Native.Nat.{ℕ, ◌+◌, ◌/◌, ◌%◌, ◌≤◌, ◌<◌}
use native.Mathlib.Omega.{arith}
use mathlib.Core.List.{List, [], ◌∷◌}
use mathlib.Core.Path.{◌≡◌, ap, ◌∙◌}
use lib.ListN.{length}
use lib.Seq.{length-sets}
use Rattle.csv_text.specs.Decimal.{decimal_of}
use Rattle.csv_text.specs.Written.{Wrote}
use Rattle.csv_text.proofs.Decimal.{decimal_small, decimal_large, length_large}
use Rattle.csv_text.proofs.Written.{wrote_more}

pub one_digit : (n : ℕ) → n < 10 → decimal_of n ≡ (48 + n % 10) ∷ []
one_digit n h =
    let same : 48 + n ≡ 48 + n % 10 = omega arith in
    decimal_small n h ∙ ap (λ (d : ℕ). d ∷ []) same

module _ (n : ℕ) (h : 10 ≤ n) {l : List ℕ} {at : ℕ} {m : List ℕ} {r : ℕ} (w : Wrote l at (decimal_of (n / 10)) m r) where
  pub room_behind : at + length (decimal_of n) ≤ length l → r < length m
  room_behind e =
      let same : length m ≡ length l = ap length w.bytes ∙ length-sets l at (decimal_of (n / 10)) in
      omega (arith, length_large n h, w.end)

  pub digit_behind : {k : List ℕ} {q : ℕ} → Wrote m r ((48 + n % 10) ∷ []) k q → Wrote l at (decimal_of n) k q
  digit_behind v = rw (decimal_large n h) (wrote_more _ _ _ _ _ _ _ _ w v)
