-- Laws of a word's bits: under shifts, `|`, `&` and `!`, and what the counts of trailing zeros and of ones say of them.
-- Assumes nothing.
use Rattle.std.specs.Prelude.{ℕ, zero, suc, ◌+◌, ◌-◌, ◌*◌, ◌/◌, ◌%◌, ◌^◌, ◌≤◌, ◌<◌, min, max, ◌≡◌, refl, List, [], ◌∷◌, cond, eqb, length, get_or}
use Rattle.std.proofs.Common.{sym, ap, ap₂, ◌∙◌, mod-lt, mod-eq_of_lt, div-one, pow-suc, one-mul, lt_of_le_of_lt, one-add, arith, pow_pos, shr-shr}
use Rattle.std.proofs.Math.Nat.{div-eq_of_lt, zero-div}
use Rattle.std.proofs.Math.Decide.{dec_lt}
use Rattle.std.proofs.Math.Arith.{digits_mod}
use Rattle.std.proofs.Math.Pow.{pow-lt, split}
use Rattle.std.proofs.lemmas.Nat.{shl-shr, and_shr, or_shr}
use Rattle.std.specs.Int.Bits.{bit_and, bit_or, and_step, or_step, shifted_half, shifted_even}
use Rattle.std.specs.Int.Count.{ones, ones_step, count_trailing_zeros, under}
use Rattle.rules.specs.Lists.{occ}
use Rattle.rules.specs.Words.{bit}

pub bit_le : (w i : ℕ) → bit w i ≤ 1
unfolding bit
bit_le w i = omega (arith, mod-lt (w / 2 ^ i) {m = 2} (omega arith))

pub bit_none : (i : ℕ) → bit 0 i ≡ 0
unfolding bit
bit_none i = ap (λ (x : ℕ). x % 2) (zero-div (2 ^ i))

pub bit_low : (w : ℕ) → bit w 0 ≡ w % 2
unfolding bit
bit_low w = ap (λ (x : ℕ). x % 2) (div-one w)

pub bit_suc : (w i : ℕ) → bit w (suc i) ≡ bit (w / 2) i
unfolding bit
bit_suc w i = ap (λ (x : ℕ). x % 2) (ap (λ (k : ℕ). w / 2 ^ k) (sym (one-add i)) ∙ sym (shr-shr w 1 i))

-- `w >> k`
pub bit_shr : (w k i : ℕ) → bit (w / 2 ^ k) i ≡ bit w (k + i)
unfolding bit
bit_shr w k i = ap (λ (x : ℕ). x % 2) (shr-shr w k i)

-- `a << k`: the bits below k are 0
shl_below : (a k i : ℕ) → i < k → bit (a * 2 ^ k) i ≡ 0
shl_below a zero i h = absurd (omega arith)
shl_below a (suc k) zero h = bit_low (a * 2 ^ suc k) ∙ shifted_even a k
shl_below a (suc k) (suc i) h = bit_suc (a * 2 ^ suc k) i ∙ ap (λ (x : ℕ). bit x i) (shifted_half a k) ∙ shl_below a k i (omega arith)

-- `(w >> k) << k`: no bit is shifted out
shift_fits : (w k : ℕ) → w < 2 ^ 64 → (w / 2 ^ k * 2 ^ k) % 2 ^ 64 ≡ w / 2 ^ k * 2 ^ k
shift_fits w k h = mod-eq_of_lt (lt_of_le_of_lt (omega (arith, split w k)) h)

-- the bits below k are cleared
pub from_below : (w k i : ℕ) → w < 2 ^ 64 → i < k → bit ((w / 2 ^ k * 2 ^ k) % 2 ^ 64) i ≡ 0
from_below w k i h l = ap (λ (x : ℕ). bit x i) (shift_fits w k h) ∙ shl_below (w / 2 ^ k) k i l

-- those from k on are kept
pub from_on : (w k i : ℕ) → w < 2 ^ 64 → k ≤ i → bit ((w / 2 ^ k * 2 ^ k) % 2 ^ 64) i ≡ bit w i
from_on w k i h l =
    let e : k + (i - k) ≡ i = omega arith in
    let kept : bit (w / 2 ^ k * 2 ^ k) (k + (i - k)) ≡ bit w (k + (i - k)) =
    sym (bit_shr (w / 2 ^ k * 2 ^ k) k (i - k)) ∙ ap (λ (x : ℕ). bit x (i - k)) (shl-shr (w / 2 ^ k) k) ∙ bit_shr w k (i - k) in
    ap (λ (x : ℕ). bit x i) (shift_fits w k h) ∙ rw e at kept

-- a bit past the word's length
pub bit_past : (w i : ℕ) → w < 2 ^ i → bit w i ≡ 0
unfolding bit
bit_past w i h = ap (λ (x : ℕ). x % 2) (div-eq_of_lt h)

pub bit_or_lem : (a b i : ℕ) → bit (bit_or a b) i ≡ max (bit a i) (bit b i)
unfolding bit
bit_or_lem a b i = ap (λ (x : ℕ). x % 2) (or_shr a b i) ∙ low (a / 2 ^ i) (b / 2 ^ i)
  where
    low : (x y : ℕ) → bit_or x y % 2 ≡ max (x % 2) (y % 2)
    low x y = ap (λ (z : ℕ). z % 2) (or_step x y) ∙ digits_mod (bit_or (x / 2) (y / 2)) (omega arith)

pub bit_and_lem : (a b i : ℕ) → bit (bit_and a b) i ≡ min (bit a i) (bit b i)
unfolding bit
bit_and_lem a b i = ap (λ (x : ℕ). x % 2) (and_shr a b i) ∙ low (a / 2 ^ i) (b / 2 ^ i)
  where
    low : (x y : ℕ) → bit_and x y % 2 ≡ min (x % 2) (y % 2)
    low x y = ap (λ (z : ℕ). z % 2) (and_step x y) ∙ digits_mod (bit_and (x / 2) (y / 2)) (omega arith)

-- a's complement at a width of k
pub bit_not : (k a i : ℕ) → a < 2 ^ k → i < k → bit ((2 ^ k - 1) - a) i ≡ 1 - bit a i
bit_not zero a i h l = absurd (omega arith)
bit_not (suc k) a zero h l =
    let p : 2 ^ suc k ≡ 2 ^ k * 2 = pow-suc 2 k in
    let q : ((2 ^ suc k - 1) - a) % 2 ≡ 1 - a % 2 = omega (arith, pow_pos k) in
    bit_low ((2 ^ suc k - 1) - a) ∙ q ∙ ap (λ (x : ℕ). 1 - x) (sym (bit_low a))
bit_not (suc k) a (suc i) h l =
    let p : 2 ^ suc k ≡ 2 ^ k * 2 = pow-suc 2 k in
    let q : ((2 ^ suc k - 1) - a) / 2 ≡ (2 ^ k - 1) - a / 2 = omega (arith, pow_pos k) in
    bit_suc ((2 ^ suc k - 1) - a) i ∙ ap (λ (x : ℕ). bit x i) q ∙ bit_not k (a / 2) i (omega arith) (omega arith) ∙ ap (λ (x : ℕ). 1 - x) (sym (bit_suc a i))

-- `1 << i`
pub one_shl : (i : ℕ) → i < 64 → (1 * 2 ^ i) % 2 ^ 64 ≡ 2 ^ i
one_shl i h = ap (λ (x : ℕ). x % 2 ^ 64) (one-mul (2 ^ i)) ∙ mod-eq_of_lt (pow-lt h)

-- its bit i alone is set
pub bit_power : (i : ℕ) → bit (2 ^ i) i ≡ 1
bit_power zero = bit_low 1
bit_power (suc i) =
    let h : 2 ^ suc i / 2 ≡ 2 ^ i = omega (arith, pow-suc 2 i) in
    bit_suc (2 ^ suc i) i ∙ ap (λ (x : ℕ). bit x i) h ∙ bit_power i

pub bit_power_other : (i j : ℕ) → (j ≡ i → ⊥) → bit (2 ^ i) j ≡ 0
bit_power_other zero zero f = absurd (f refl)
bit_power_other zero (suc j) f = bit_suc 1 j ∙ bit_none j
bit_power_other (suc i) zero f = bit_low (2 ^ suc i) ∙ omega (arith, pow-suc 2 i)
bit_power_other (suc i) (suc j) f =
    let h : 2 ^ suc i / 2 ≡ 2 ^ i = omega (arith, pow-suc 2 i) in
    bit_suc (2 ^ suc i) j ∙ ap (λ (x : ℕ). bit x j) h ∙ bit_power_other i j (λ e. f (ap suc e))

-- ---- trailing zeros

under_below : (d t i : ℕ) → suc i < under d t → i < t
under_below zero t i h = omega arith
under_below (suc d) t i h = absurd (omega arith)

-- below the count every bit is 0
pub trailing_below : (k w i : ℕ) → i < count_trailing_zeros k w → bit w i ≡ 0
unfolding count_trailing_zeros
trailing_below zero w i h = absurd (omega arith)
trailing_below (suc k) w zero h = bit_low w ∙ even (w % 2) (count_trailing_zeros k (w / 2)) h
  where
    even : (d t : ℕ) → 0 < under d t → d ≡ 0
    even zero t l = refl
    even (suc d) t l = absurd (omega arith)
trailing_below (suc k) w (suc i) h = bit_suc w i ∙ trailing_below k (w / 2) i (under_below (w % 2) (count_trailing_zeros k (w / 2)) i h)

-- the bit that the count ends at is 1
pub trailing_at : (k w : ℕ) → count_trailing_zeros k w < k → bit w (count_trailing_zeros k w) ≡ 1
unfolding count_trailing_zeros
trailing_at zero w h = absurd (omega arith)
trailing_at (suc k) w h = go (trailing_at k (w / 2)) (w % 2) refl h
  where
    go : (count_trailing_zeros k (w / 2) < k → bit (w / 2) (count_trailing_zeros k (w / 2)) ≡ 1) → (d : ℕ) → w % 2 ≡ d
        → under d (count_trailing_zeros k (w / 2)) < suc k → bit w (under d (count_trailing_zeros k (w / 2))) ≡ 1
    go rest zero e l = bit_suc w (count_trailing_zeros k (w / 2)) ∙ rest (omega arith)
    go rest (suc d) e l = bit_low w ∙ omega (arith, mod-lt w {m = 2} (omega arith))

-- a word that is not 0 has a bit that is 1
pub trailing_lt : (k w : ℕ) → w < 2 ^ k → (w ≡ 0 → ⊥) → count_trailing_zeros k w < k
unfolding count_trailing_zeros
trailing_lt zero w h f = absurd (f (omega arith))
trailing_lt (suc k) w h f = go (trailing_lt k (w / 2) (omega (arith, pow-suc 2 k))) (w % 2) refl
  where
    go : ((w / 2 ≡ 0 → ⊥) → count_trailing_zeros k (w / 2) < k) → (d : ℕ) → w % 2 ≡ d → under d (count_trailing_zeros k (w / 2)) < suc k
    go rest zero e = omega (arith, rest (λ z. f (omega arith)))
    go rest (suc d) e = omega arith

-- `w - 1`: the lowest bit that is 1 becomes 0
pred_at : (k w : ℕ) → count_trailing_zeros k w < k → bit (w - 1) (count_trailing_zeros k w) ≡ 0
unfolding count_trailing_zeros
pred_at zero w h = absurd (omega arith)
pred_at (suc k) w h = go (pred_at k (w / 2)) (w % 2) refl h
  where
    go : (count_trailing_zeros k (w / 2) < k → bit (w / 2 - 1) (count_trailing_zeros k (w / 2)) ≡ 0) → (d : ℕ) → w % 2 ≡ d
        → under d (count_trailing_zeros k (w / 2)) < suc k → bit (w - 1) (under d (count_trailing_zeros k (w / 2))) ≡ 0
    go rest zero e l =
        let half : (w - 1) / 2 ≡ w / 2 - 1 = omega arith in
        bit_suc (w - 1) (count_trailing_zeros k (w / 2)) ∙ ap (λ (x : ℕ). bit x (count_trailing_zeros k (w / 2))) half ∙ rest (omega arith)
    go rest (suc d) e l = bit_low (w - 1) ∙ omega arith

-- and the bits above it stay
pred_above : (k w i : ℕ) → count_trailing_zeros k w < k → count_trailing_zeros k w < i → bit (w - 1) i ≡ bit w i
unfolding count_trailing_zeros
pred_above zero w i h l = absurd (omega arith)
pred_above (suc k) w zero h l = absurd (omega arith)
pred_above (suc k) w (suc i) h l = bit_suc (w - 1) i ∙ go (pred_above k (w / 2) i) (w % 2) refl h l ∙ sym (bit_suc w i)
  where
    go : (count_trailing_zeros k (w / 2) < k → count_trailing_zeros k (w / 2) < i → bit (w / 2 - 1) i ≡ bit (w / 2) i) → (d : ℕ) → w % 2 ≡ d
        → under d (count_trailing_zeros k (w / 2)) < suc k → under d (count_trailing_zeros k (w / 2)) < suc i → bit ((w - 1) / 2) i ≡ bit (w / 2) i
    go rest zero e m n =
        let half : (w - 1) / 2 ≡ w / 2 - 1 = omega arith in
        ap (λ (x : ℕ). bit x i) half ∙ rest (omega arith) (omega arith)
    go rest (suc d) e m n =
        let half : (w - 1) / 2 ≡ w / 2 = omega arith in
        ap (λ (x : ℕ). bit x i) half

-- `w & (w - 1)`: the lowest bit that is 1 is cleared
pub clear_to : (k w i : ℕ) → count_trailing_zeros k w < k → i ≤ count_trailing_zeros k w → bit (bit_and w (w - 1)) i ≡ 0
clear_to k w i h l = bit_and_lem w (w - 1) i ∙ elim (dec_lt i (count_trailing_zeros k w)) [
  | yes m ↦ omega (arith, trailing_below k w i m)
  | no f ↦ let e : i ≡ count_trailing_zeros k w = omega arith in omega (arith, ap (bit (w - 1)) e, pred_at k w h)
]

-- the bits above it are kept
pub clear_above : (k w i : ℕ) → count_trailing_zeros k w < k → count_trailing_zeros k w < i → bit (bit_and w (w - 1)) i ≡ bit w i
clear_above k w i h l = bit_and_lem w (w - 1) i ∙ omega (arith, pred_above k w i h l)

-- ---- counts of ones

-- the k lowest bits, lowest first
unfoldable pub bits : ℕ → ℕ → List ℕ
bits zero w = []
bits (suc k) w = w % 2 ∷ bits k (w / 2)

pub get_or-bits : (k w i : ℕ) → i < k → get_or (bits k w) i 0 ≡ bit w i
unfolding bits
get_or-bits zero w i h = absurd (omega arith)
get_or-bits (suc k) w zero h = sym (bit_low w)
get_or-bits (suc k) w (suc i) h = get_or-bits k (w / 2) i (omega arith) ∙ sym (bit_suc w i)

pub length_bits : (k w : ℕ) → length (bits k w) ≡ k
unfolding bits
length_bits zero w = refl
length_bits (suc k) w = ap suc (length_bits k (w / 2))

pub ones_bits : (k w : ℕ) → w < 2 ^ k → ones w ≡ occ 1 (bits k w)
unfolding bits occ ones
ones_bits zero w h = let z : w ≡ 0 = omega arith in ap ones z
ones_bits (suc k) w h = ones_step w ∙ ap₂ (λ (x y : ℕ). x + y) (count (w % 2) (mod-lt w (omega arith))) (ones_bits k (w / 2) (omega (arith, pow-suc 2 k)))
  where
    count : (d : ℕ) → d < 2 → d ≡ cond (eqb 1 d) 1 0
    count zero l = refl
    count (suc zero) l = refl
    count (suc (suc d)) l = absurd (omega arith)
