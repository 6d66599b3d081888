-- Laws of the open cells of one word: how they are computed, and what a search that begins there has ahead.
-- Assumes nothing.
use Prim.Native.Nat.{ℕ, ◌+◌, ◌-◌, ◌*◌, ◌/◌, ◌%◌, ◌^◌, ◌≤◌, ◌<◌}
use native.Mathlib.Decide.{dec_lt}
use native.Mathlib.Nat.{lt_of_le_of_lt, lt_of_lt_of_le}
use native.Mathlib.Omega.{arith}
use mathlib.Core.List.{List}
use mathlib.Core.Path.{◌≡◌, refl, sym, ap, ◌∙◌}
use lib.Bits.{bit_and, and_le_l}
use lib.ListN.{get_or}
use lib.Pow.{pow_mono}
use Rattle.rules.specs.Words.{bit, is_open}
use Rattle.laws.specs.Words.Bits.{bit_le, bit_and_lem, bit_not, bit_past, from_below, from_on}
use Rattle.laws.specs.Words.Cells.{bit_of_at, open_is, is_open_lem}
use Rattle.words.specs.Search.{OpenWord, Ahead}

-- a bit in the word and none in that of the marks
pub open_word : (words marks : List ℕ) (j : ℕ) → get_or words j 0 < 2 ^ 64 → get_or marks j 0 < 2 ^ 64
    → OpenWord words marks j (bit_and (get_or words j 0) ((2 ^ 64 - 1) - get_or marks j 0))
open_word words marks j hw hm =
    let w : ℕ = get_or words j 0 in
    let m : ℕ = get_or marks j 0 in
    record {
      has = λ i l o.
          let r = open_is words marks (64 * j + i) o in
          bit_and_lem w ((2 ^ 64 - 1) - m) i ∙ omega (arith, bit_not 64 m i hm l, bit_of_at words j i l, bit_of_at marks j i l, r.0, r.1);
      only = λ i e. elim (dec_lt i 64) [
        | yes l ↦
            let both = bit_and_lem w ((2 ^ 64 - 1) - m) i in
            let not-marked = bit_not 64 m i hm l in
            let bit-w = bit_le w i in
            let bit-m = bit_le m i in
            (l, is_open_lem words marks (64 * j + i) (bit_of_at words j i l ∙ omega arith) (bit_of_at marks j i l ∙ omega arith))
        | no f ↦
            let width : 2 ^ 64 ≤ 2 ^ i = pow_mono {i = 64} {j = i} (omega arith) in
            let small : bit_and w ((2 ^ 64 - 1) - m) < 2 ^ i = lt_of_le_of_lt (and_le_l w ((2 ^ 64 - 1) - m)) (lt_of_lt_of_le hw width) in
            absurd (omega (arith, bit_past (bit_and w ((2 ^ 64 - 1) - m)) i small))
      ];
    }

-- the cells of a word from a given one on
module _ {words marks : List ℕ} {j word : ℕ} (o : OpenWord words marks j word) where
  ahead_from : (from bits : ℕ) → from / 64 ≡ j → ((i : ℕ) → i < from % 64 → bit bits i ≡ 0)
      → ((i : ℕ) → from % 64 ≤ i → bit bits i ≡ bit word i) → Ahead words marks from (64 * j) bits
  ahead_from from bits e below on = record {
    whole = omega arith;
    near = omega arith;
    has = λ d g h t.
        let at : 64 * j + (d - 64 * j) ≡ d = omega arith in
        on (d - 64 * j) (omega arith) ∙ o.has (d - 64 * j) (omega arith) (ap (is_open words marks) at ∙ t);
    only = λ i t. elim (dec_lt i (from % 64)) [
      | yes m ↦ absurd (omega (arith, below i m))
      | no f ↦
          let r = o.only i (sym (on i (omega arith)) ∙ t) in
          (r.0, omega (arith, r.0), r.1)
    ];
  }

  -- all of them
  pub ahead_word : (from : ℕ) → from ≡ 64 * j → Ahead words marks from from word
  ahead_word from e = rw (sym e) at (ahead_from from word (omega arith) (λ i h. absurd (omega arith)) (λ i h. refl))

  -- `(word >> k) << k`
  pub ahead_cell : (from : ℕ) → from / 64 ≡ j → word < 2 ^ 64
      → Ahead words marks from (64 * j) ((word / 2 ^ (from % 64) * 2 ^ (from % 64)) % 2 ^ 64)
  ahead_cell from e fits =
      ahead_from from ((word / 2 ^ (from % 64) * 2 ^ (from % 64)) % 2 ^ 64) e (λ i h. from_below word (from % 64) i fits h)
      (λ i h. from_on word (from % 64) i fits h)
