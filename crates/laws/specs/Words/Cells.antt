-- Laws of the bits of cells: what a tabulated list holds, and what words say of each cell.
-- Assumes nothing.
use Rattle.std.specs.Prelude.{ℕ, zero, suc, ◌+◌, ◌*◌, ◌/◌, ◌%◌, ◌≤◌, ◌<◌, ◌≡◌, refl, List, [], ◌∷◌, ◌++◌, true, eqb, length, get_or}
use Rattle.std.proofs.Common.{sym, ap, ◌∙◌, add-one, arith, eqb-true, eq-eqb, length-append}
use Rattle.std.proofs.Math.Decide.{dec_lt}
use Rattle.std.proofs.Math.ListN.{get_or-append, get_or-eq_default}
use Rattle.std.proofs.Math.Seq.{get_or-append_seam}
use Rattle.rules.specs.Lists.{tabulate}
use Rattle.rules.specs.Words.{bit, bit_of, bits_of, is_open}
use Rattle.laws.specs.Lists.Tests.{and_join, and_left, and_right}
use Rattle.laws.specs.Words.Bits.{bit_le, bit_none}

-- ---- what a function gives, as a list

pub length-tabulate : (f : ℕ → ℕ) (n : ℕ) → length (tabulate f n) ≡ n
unfolding tabulate
length-tabulate f zero = refl
length-tabulate f (suc n) = length-append (tabulate f n) (f n ∷ []) ∙ ap (λ (k : ℕ). k + 1) (length-tabulate f n) ∙ add-one n

pub get_or-tabulate : (f : ℕ → ℕ) (n c : ℕ) → c < n → get_or (tabulate f n) c 0 ≡ f c
unfolding tabulate
get_or-tabulate f zero c h = absurd (omega arith)
get_or-tabulate f (suc n) c h = elim (dec_lt c n) [
  | yes l ↦ get_or-append (tabulate f n) (f n ∷ []) 0 c (omega (arith, length-tabulate f n)) ∙ get_or-tabulate f n c l
  | no g ↦
      let e : c ≡ length (tabulate f n) = omega (arith, length-tabulate f n) in
      let z : c ≡ n = omega arith in
      ap (λ (k : ℕ). get_or (tabulate f n ++ (f n ∷ [])) k 0) e ∙ get_or-append_seam (tabulate f n) (f n) [] 0 ∙ ap f (sym z)
]

pub get_or-tabulate_past : (f : ℕ → ℕ) (n c : ℕ) → n ≤ c → get_or (tabulate f n) c 0 ≡ 0
get_or-tabulate_past f n c h = get_or-eq_default (tabulate f n) 0 {n = c} (omega (arith, length-tabulate f n))

-- ---- the bit of a cell

pub bit_of_le : (words : List ℕ) (c : ℕ) → bit_of words c ≤ 1
unfolding bit_of
bit_of_le words c = bit_le (get_or words (c / 64) 0) (c % 64)

-- of word j it is bit i
pub bit_of_at : (words : List ℕ) (j i : ℕ) → i < 64 → bit_of words (64 * j + i) ≡ bit (get_or words j 0) i
unfolding bit_of
bit_of_at words j i h =
    let word : (64 * j + i) / 64 ≡ j = omega arith in
    let place : (64 * j + i) % 64 ≡ i = omega arith in
    rw (word, place) refl

-- past the words there is none
pub bit_of_past : (words : List ℕ) (c : ℕ) → 64 * length words ≤ c → bit_of words c ≡ 0
unfolding bit_of
bit_of_past words c h =
    ap (λ (x : ℕ). bit x (c % 64)) (get_or-eq_default words 0 {n = c / 64} (omega arith)) ∙ bit_none (c % 64)

-- an open cell has a bit in the words and none in the marks
pub open_is : (words marks : List ℕ) (c : ℕ) → is_open words marks c ≡ true → (bit_of words c ≡ 1) × (bit_of marks c ≡ 0)
unfolding is_open
open_is words marks c o = (
  eqb-true (bit_of words c) 1 (and_left (eqb (bit_of words c) 1) (eqb (bit_of marks c) 0) o),
  eqb-true (bit_of marks c) 0 (and_right (eqb (bit_of words c) 1) (eqb (bit_of marks c) 0) o),
)

pub is_open_lem : (words marks : List ℕ) (c : ℕ) → bit_of words c ≡ 1 → bit_of marks c ≡ 0 → is_open words marks c ≡ true
unfolding is_open
is_open_lem words marks c has none = and_join (eq-eqb (bit_of words c) 1 has) (eq-eqb (bit_of marks c) 0 none)

-- ---- the bits of n cells

pub length-bits_of : (n : ℕ) (words : List ℕ) → length (bits_of n words) ≡ n
unfolding bits_of
length-bits_of n words = length-tabulate (bit_of words) n

pub get_or-bits_of : (n : ℕ) (words : List ℕ) (c : ℕ) → c < n → get_or (bits_of n words) c 0 ≡ bit_of words c
unfolding bits_of
get_or-bits_of n words c h = get_or-tabulate (bit_of words) n c h

pub get_or-bits_of_past : (n : ℕ) (words : List ℕ) (c : ℕ) → n ≤ c → get_or (bits_of n words) c 0 ≡ 0
unfolding bits_of
get_or-bits_of_past n words c h = get_or-tabulate_past (bit_of words) n c h
