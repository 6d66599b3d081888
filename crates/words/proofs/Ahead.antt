-- Laws of a search that has the open cells from some cell on ahead: where a word has none left, and where it has.
-- Assumes nothing.
use Prim.Native.Nat.{ℕ, suc, ◌+◌, ◌-◌, ◌/◌, ◌^◌, ◌≤◌, ◌<◌}
use native.Mathlib.Decide.{dec_lt}
use native.Mathlib.Omega.{arith}
use mathlib.Core.List.{List}
use mathlib.Core.Bool.{true, false}
use mathlib.Core.Path.{◌≡◌, sym, ap, ◌∙◌}
use lib.Bits.{bit_and}
use lib.Count.{count_trailing_zeros}
use Rattle.rules.specs.Words.{bit, is_open, next_open}
use Rattle.laws.specs.Lists.Tests.{fails}
use Rattle.laws.specs.Words.Bits.{bit_none, trailing_at, trailing_below, trailing_lt, clear_to, clear_above}
use Rattle.laws.specs.Words.Search.{lowest_from, first_only, open_law}
use Rattle.words.specs.Search.{OpenWord, Ahead}
use Rattle.words.specs.Listed.{next_behind}
use Rattle.words.proofs.OpenWords.{ahead_word}

-- no cell from `from` up to `at` is open, and those from `at` on are ahead
pub record Searched (words marks : List ℕ) (from base bits : ℕ) : Type 0 where
  pub at : ℕ
  pub on : from ≤ at
  pub passed : (d : ℕ) → from ≤ d → d < at → is_open words marks d ≡ false
  pub ahead : Ahead words marks at base bits

pub searched_start : {words marks : List ℕ} {from base bits : ℕ} → Ahead words marks from base bits → Searched words marks from base bits
searched_start {from = from} a = record { at = from; on = omega arith; passed = λ d g l. absurd (omega arith); ahead = a }

module _ {words marks : List ℕ} {from base bits : ℕ} (r : Searched words marks from base bits) where
  -- where the k lowest bits of the word are 0, none of their cells is open
  module _ (k : ℕ) (zeros : (i : ℕ) → i < k → bit bits i ≡ 0) (most : k ≤ 64) where
    passed_to : (d : ℕ) → from ≤ d → d < base + k → is_open words marks d ≡ false
    passed_to d g h = elim (dec_lt d r.at) [
      | yes m ↦ r.passed d g m
      | no f ↦
          let none = zeros (d - base) (omega (arith, r.ahead.near)) in
          fails (is_open words marks d) (λ t. omega (arith, r.ahead.has d (omega arith) (omega arith) t))
    ]

    -- and there is none at all where these are the last cells
    none_left : (n : ℕ) → n ≤ base + k → n ≤ next_open words marks from n
    none_left n l = elim (dec_lt n from) [
      | yes m ↦ omega (arith, next_behind words marks from n m)
      | no f ↦ omega (arith, (open_law words marks from n (omega (arith, f))).none.1 (λ d g h. passed_to d g (omega arith)))
    ]

  -- a word that has no bit has no open cell left
  module _ (z : bits ≡ 0) where
    no_bits : (i : ℕ) → i < 64 → bit bits i ≡ 0
    no_bits i l = ap (λ (x : ℕ). bit x i) z ∙ bit_none i

    -- the search goes on in the next word
    pub searched_next : {word : ℕ} → OpenWord words marks ((base + 64) / 64) word → Searched words marks from (base + 64) word
    searched_next o = record {
      at = base + 64;
      on = omega (arith, r.on, r.ahead.near);
      passed = passed_to 64 no_bits (omega arith);
      ahead = ahead_word o (base + 64) (omega (arith, r.ahead.whole));
    }

    -- or there is none
    pub searched_end : (n : ℕ) → n ≤ base + 64 → n ≤ next_open words marks from n
    searched_end = none_left 64 no_bits (omega arith)

  -- a word that has a bit has an open cell: the lowest
  module _ (some : bits ≡ 0 → ⊥) (fits : bits < 2 ^ 64) where
    low : count_trailing_zeros 64 bits < 64
    low = trailing_lt 64 bits fits some

    lowest_bit : (r.at ≤ base + count_trailing_zeros 64 bits) × (is_open words marks (base + count_trailing_zeros 64 bits) ≡ true)
    lowest_bit = let is = r.ahead.only (count_trailing_zeros 64 bits) (trailing_at 64 bits low) in (is.1, is.2)

    -- it is what was found
    pub found_at : (n : ℕ) → base + count_trailing_zeros 64 bits < n → base + count_trailing_zeros 64 bits ≡ next_open words marks from n
    found_at n l =
        let passed = passed_to (count_trailing_zeros 64 bits) (trailing_below 64 bits) (omega (arith, low)) in
        let on : from ≤ base + count_trailing_zeros 64 bits = omega (arith, r.on, lowest_bit.0) in
        first_only (lowest_from (on, omega arith) (λ _. lowest_bit.1) passed) (open_law words marks from n (omega arith))

    -- or it is past the cells, and there is none
    pub found_none : (n : ℕ) → n ≤ base + count_trailing_zeros 64 bits → n ≤ next_open words marks from n
    found_none = none_left (count_trailing_zeros 64 bits) (trailing_below 64 bits) (omega (arith, low))

    -- and the cells after it are left
    pub found_left : Ahead words marks (suc (base + count_trailing_zeros 64 bits)) base (bit_and bits (bits - 1))
    found_left =
        let t : ℕ = count_trailing_zeros 64 bits in
        let a = r.ahead in
        record {
          whole = a.whole;
          near = omega (arith, low);
          has = λ d g h o. clear_above 64 bits (d - base) low (omega arith) ∙ a.has d (omega (arith, lowest_bit.0)) h o;
          only = λ i e. elim (dec_lt t i) [
            | yes h ↦ let o = a.only i (sym (clear_above 64 bits i low h) ∙ e) in (o.0, omega arith, o.2)
            | no f ↦ absurd (omega (arith, clear_to 64 bits i low (omega arith)))
          ];
        }
