-- Laws of the words of the used cells: one cell more, and one word more.
-- Assumes nothing.
use Prim.Native.Nat.{ℕ, zero, suc, ◌+◌, ◌-◌, ◌*◌, ◌/◌, ◌%◌, ◌^◌, ◌≤◌, ◌<◌, min}
use native.Mathlib.Decide.{ℕ_discrete, dec_lt}
use native.Mathlib.Nat.{pow-suc}
use native.Mathlib.Omega.{arith}
use mathlib.Core.List.{List}
use mathlib.Core.Bool.{Bool, true, false, not, cond}
use mathlib.Core.Path.{◌≡◌, refl, sym, ap, ◌∙◌}
use mir.Val.{bool_byte}
use lib.Arith.{lt_of_le-ne}
use lib.Dec.{eqb}
use lib.ListN.{length, get_or, set, get_or-eq_default}
use lib.Pow.{pow_mono}
use lib.Seq.{get_or-set_same, get_or-set_other}
use Rattle.rules.specs.Words.{bit, bit_of, UsedBits}
use Rattle.laws.specs.Words.Bits.{bit_none, bit_low, bit_suc}
use Rattle.laws.specs.Words.Cells.{bit_of_past}
use Rattle.words.specs.Used.{UsedWord}

-- the bit of a cell
abbrev pub used_at : List ℕ → ℕ → ℕ
used_at kind c = cond (eqb (get_or kind c 0) 0) 0 1

pub used_most : (kind : List ℕ) (c b : ℕ) → b ≡ used_at kind c → b ≤ 1
used_most kind c b e = omega (arith, most (eqb (get_or kind c 0) 0))
  where
    most : (t : Bool) → cond t 0 1 ≤ 1
    most true = omega arith
    most false = omega arith

-- a test as a number
pub unused : (b : Bool) → bool_byte (not b) ≡ cond b 0 1
unused true = refl
unused false = refl

-- no cell is used past the table
used_past : (kind : List ℕ) (c : ℕ) → length kind ≤ c → used_at kind c ≡ 0
used_past kind c h = ap (λ (k : ℕ). cond (eqb k 0) 0 1) (get_or-eq_default kind 0 {n = c} h)

-- ---- one word: its cells from c on, of those up to `end`

pub record Upper (kind : List ℕ) (start end c word : ℕ) : Type 0 where
  pub ends : end ≡ min (start + 64) (length kind)
  pub between : (min start end ≤ c) × (c ≤ end)
  pub fits : word < 2 ^ (end - c)
  pub bits : (i : ℕ) → c + i < start + 64 → bit word i ≡ used_at kind (c + i)

pub upper_none : (kind : List ℕ) (start end : ℕ) → end ≡ min (start + 64) (length kind) → Upper kind start end end 0
upper_none kind start end e = record {
  ends = e;
  between = omega arith;
  fits = let z : end - end ≡ 0 = omega arith in rw z (omega arith);
  bits = λ i l. bit_none i ∙ sym (used_past kind (end + i) (omega arith));
}

module _ {kind : List ℕ} {start end c word : ℕ} (u : Upper kind start end c word) where
  -- there is room for the bit of one cell more
  pub upper_room : start < c → 2 * word + 1 < 2 ^ 64
  upper_room l = omega (arith, u.fits, pow_mono {i = end - c} {j = 63} (omega (arith, u.ends)))

  -- one cell more, below the others
  pub upper_more : (b : ℕ) → start < c → b ≡ used_at kind (c - 1) → Upper kind start end (c - 1) (2 * word + b)
  upper_more b l e =
      let most : b ≤ 1 = used_most kind (c - 1) b e in
      let more : end - (c - 1) ≡ suc (end - c) = omega (arith, u.between) in
      record { ends = u.ends; between = omega (arith, u.between); fits = rw more (omega (arith, u.fits, pow-suc 2 (end - c))); bits = each most }
    where
      each : b ≤ 1 → (i : ℕ) → c - 1 + i < start + 64 → bit (2 * word + b) i ≡ used_at kind (c - 1 + i)
      each most zero h =
          let here : c - 1 ≡ c - 1 + 0 = omega arith in
          let digit : (2 * word + b) % 2 ≡ b = omega arith in
          bit_low (2 * word + b) ∙ digit ∙ e ∙ ap (used_at kind) here
      each most (suc i) h =
          let there : c + i ≡ c - 1 + suc i = omega arith in
          let half : (2 * word + b) / 2 ≡ word = omega arith in
          bit_suc (2 * word + b) i ∙ ap (λ (x : ℕ). bit x i) half ∙ u.bits i (omega arith) ∙ ap (used_at kind) there

  -- all of them
  pub upper_all : c ≤ start → UsedWord kind start word
  upper_all l = record {
    bits = λ i h. elim (ℕ_discrete c start) [
      | yes e ↦ rw e at (u.bits i (omega arith))
      | no f ↦
          let none : end - c ≡ 0 = omega (arith, f, u.between) in
          let small : word < 2 ^ 0 = rw none at u.fits in
          let z : word ≡ 0 = omega arith in
          ap (λ (x : ℕ). bit x i) z ∙ bit_none i ∙ sym (used_past kind (start + i) (omega (arith, f, u.between, u.ends)))
    ];
  }

-- ---- the words below j

abbrev pub UsedBelow : List ℕ → List ℕ → ℕ → Type 0
UsedBelow kind words j = (c : ℕ) → c < 64 * j → bit_of words c ≡ used_at kind c

-- one word more
pub below_next : (kind words : List ℕ) (j word : ℕ) → j < length words → UsedBelow kind words j → UsedWord kind (64 * j) word
    → UsedBelow kind (set words j word) (j + 1)
unfolding bit_of
below_next kind words j word h below u c l = elim (ℕ_discrete (c / 64) j) [
  | yes e ↦
      let at : 64 * j + c % 64 ≡ c = omega arith in
      rw (e, get_or-set_same words j word 0 h) (u.bits (c % 64) (omega arith) ∙ ap (used_at kind) at)
  | no f ↦
      let before : c / 64 < j = lt_of_le-ne (omega arith) f in
      ap (λ (x : ℕ). bit x (c % 64)) (get_or-set_other words j (c / 64) word 0 f) ∙ below c (omega arith)
]

-- all of them
pub below_all : (kind words : List ℕ) → length kind ≤ 64 * length words → UsedBelow kind words (length words) → UsedBits kind words
below_all kind words h below c = elim (dec_lt c (64 * length words)) [
  | yes l ↦ below c l
  | no f ↦ bit_of_past words c (omega arith) ∙ sym (used_past kind c (omega arith))
]
