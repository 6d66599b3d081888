-- The cells that are left of a search, as a list: the open ones, from where they begin; and word by word.
-- Assumes nothing.
use Prim.Native.Nat.{ℕ, suc, ◌+◌, ◌-◌, ◌*◌, ◌/◌, ◌%◌, ◌^◌, ◌≤◌, ◌<◌}
use native.Mathlib.Decide.{dec_lt}
use native.Mathlib.Omega.{arith}
use mathlib.Core.List.{List, [], ◌∷◌}
use mathlib.Core.Bool.{true, false}
use mathlib.Core.Path.{◌≡◌, refl, sym, ap, ◌∙◌}
use borrow.Author.Tests.{eqb-true}
use lib.Bits.{bit_and}
use lib.Count.{count_trailing_zeros}
use lib.Dec.{eqb}
use Rattle.std.proofs.Common.{Some, None}
use Rattle.std.proofs.lemmas.Bool.{lt-ltb, le-ltb}
use Rattle.numbers.specs.declared.cell.Cell.{Cell}
use Rattle.rules.specs.Words.{bit, is_open}
use Rattle.laws.specs.Lists.Tests.{fails, tests_agree}
use Rattle.laws.specs.Words.Bits.{bit_none, trailing_at, trailing_below, trailing_lt, clear_to, clear_above}
use Rattle.words.specs.declared.search.Rest.{Rest}
use Rattle.words.specs.Search.{OpenWord, Ahead, Left, AllFrom, FoundFrom, is_left, left_of, open_between}
use Rattle.words.specs.Listed.{skipped, listed, unlisted, none_listed, same_listed, open_first, open_none}
use Rattle.words.proofs.OpenWords.{ahead_word, ahead_cell}

module _ (words marks : List ℕ) (base bits : ℕ) where
  -- of the word itself those that have a bit
  left_in : (c : ℕ) → c < base + 64 → is_left words marks base bits c ≡ eqb (bit bits (c - base)) 1
  unfolding is_left
  left_in c l = rw (lt-ltb c (base + 64) l) refl

  -- and behind it the open ones
  left_behind : (c : ℕ) → base + 64 ≤ c → is_left words marks base bits c ≡ is_open words marks c
  unfolding is_left
  left_behind c l = rw (le-ltb c (base + 64) l) refl

module _ {words marks : List ℕ} {from base bits : ℕ} (a : Ahead words marks from base bits) where
  not_left : (d : ℕ) → base ≤ d → d < from → is_left words marks base bits d ≡ false
  not_left d g l =
      left_in words marks base bits d (omega (arith, a.near))
      ∙ fails (eqb (bit bits (d - base)) 1) (λ t. omega (arith, (a.only (d - base) (eqb-true (bit bits (d - base)) 1 t)).1))

  left_open : (c : ℕ) → from ≤ c → is_left words marks base bits c ≡ is_open words marks c
  left_open c g = elim (dec_lt c (base + 64)) [
    | yes l ↦
        let at : base + (c - base) ≡ c = omega (arith, a.near) in
        left_in words marks base bits c l
        ∙ tests_agree (eqb (bit bits (c - base)) 1) (is_open words marks c)
        (λ t. ap (is_open words marks) (sym at) ∙ (a.only (c - base) (eqb-true (bit bits (c - base)) 1 t)).2)
        (λ t. ap (λ (b : ℕ). eqb b 1) (a.has c g l t))
    | no f ↦ left_behind words marks base bits c (omega (arith, f))
  ]

  -- they may begin behind all cells
  ahead_listed : (n : ℕ) → base ≤ n → left_of words marks n base bits ≡ open_between words marks from n
  ahead_listed n l = elim (dec_lt n from) [
    | yes m ↦
        none_listed (is_left words marks base bits) base n l (λ d g h. not_left d g (omega arith))
        ∙ sym (unlisted (is_open words marks) from n (omega arith))
    | no f ↦
        skipped (is_left words marks base bits) base from n (omega (arith, a.near)) (omega (arith, f)) not_left
        ∙ same_listed (is_left words marks base bits) (is_open words marks) from n (λ c g h. left_open c g)
  ]

-- what is left from a cell on is left of any n cells of which that cell's word has one
pub left_within : {words marks : List ℕ} {n from : ℕ} {rest : Rest} → AllFrom words marks from rest → 64 * (from / 64) < n → Left words marks n from rest
left_within {from = from} all some =
    let l = all (suc from) (omega arith) in
    (omega (arith, some, l.0, l.1.whole, l.1.near), l.1)

module _ {words marks : List ℕ} {n from : ℕ} {rest : Rest} (l : Left words marks n from rest) where
  pub left_listed : left_of words marks n rest.base rest.bits ≡ open_between words marks from n
  left_listed = ahead_listed l.1 n (omega (arith, l.0))

  -- what is found stands at the front
  pub left_found : {cell : Cell} {next : Rest} → FoundFrom words marks n from (Some (cell, next))
      → left_of words marks n rest.base rest.bits ≡ cell.0 ∷ left_of words marks n next.base next.bits
  left_found {cell} {next} found =
      left_listed ∙ open_first words marks from n found.1
      ∙ sym (λ i. found.0 i ∷ ahead_listed found.2.1 n (omega (arith, found.2.0)) i)

  -- or nothing does
  pub left_not_found : FoundFrom words marks n from None → left_of words marks n rest.base rest.bits ≡ []
  left_not_found none = left_listed ∙ open_none words marks from n none

-- ---- word by word, where the bits of the word that a search is in need not be its open cells

module _ (words marks : List ℕ) where
  -- of a word without its k lowest bits none of their cells is
  none_below : (base bits k : ℕ) → k ≤ 64 → ((i : ℕ) → i < k → bit bits i ≡ 0) → (d : ℕ) → base ≤ d → d < base + k → is_left words marks base bits d ≡ false
  none_below base bits k most zeros d g l =
      left_in words marks base bits d (omega arith) ∙ ap (λ (b : ℕ). eqb b 1) (zeros (d - base) (omega arith))

  module _ (n base bits : ℕ) (inside : base < n) where
    -- a word that has no bit has no cell left
    module _ (z : bits ≡ 0) where
      empty : (d : ℕ) → base ≤ d → d < base + 64 → is_left words marks base bits d ≡ false
      empty = none_below base bits 64 (omega arith) (λ i l. ap (λ (x : ℕ). bit x i) z ∙ bit_none i)

      -- the search goes on in the next word
      pub left_next : {word : ℕ} → 64 * (base / 64) ≡ base → base + 64 < n → OpenWord words marks ((base + 64) / 64) word
          → left_of words marks n base bits ≡ left_of words marks n (base + 64) word
      left_next {word} whole l o =
          skipped (is_left words marks base bits) base (base + 64) n (omega arith) (omega arith) empty
          ∙ same_listed (is_left words marks base bits) (is_left words marks (base + 64) word) (base + 64) n
          (λ c g h. left_behind words marks base bits c g ∙ sym (left_open (ahead_word o (base + 64) (omega arith)) c g))

      -- or there is none
      pub left_none : n ≤ base + 64 → left_of words marks n base bits ≡ []
      left_none l = none_listed (is_left words marks base bits) base n (omega arith) (λ d g h. empty d g (omega arith))

    -- a word that has a bit has a cell: the lowest
    module _ (some : bits ≡ 0 → ⊥) (fits : bits < 2 ^ 64) where
      low : count_trailing_zeros 64 bits < 64
      low = trailing_lt 64 bits fits some

      passed : (d : ℕ) → base ≤ d → d < base + count_trailing_zeros 64 bits → is_left words marks base bits d ≡ false
      passed = none_below base bits (count_trailing_zeros 64 bits) (omega (arith, low)) (trailing_below 64 bits)

      -- it is past the cells, and there is none
      pub left_past : n ≤ base + count_trailing_zeros 64 bits → left_of words marks n base bits ≡ []
      left_past l = none_listed (is_left words marks base bits) base n (omega arith) (λ d g h. passed d g (omega arith))

      -- or it is the first of those left, and the others are those left without its bit
      pub left_first : base + count_trailing_zeros 64 bits < n
          → left_of words marks n base bits ≡ (base + count_trailing_zeros 64 bits) ∷ left_of words marks n base (bit_and bits (bits - 1))
      left_first l =
          let t : ℕ = count_trailing_zeros 64 bits in
          let bits' : ℕ = bit_and bits (bits - 1) in
          let here : base + t - base ≡ t = omega arith in
          let is : is_left words marks base bits (base + t) ≡ true =
          left_in words marks base bits (base + t) (omega (arith, low)) ∙ ap (λ (i : ℕ). eqb (bit bits i) 1) here
          ∙ ap (λ (b : ℕ). eqb b 1) (trailing_at 64 bits low) in
          let cleared = none_below base bits' (suc t) (omega (arith, low)) (λ i h. clear_to 64 bits i low (omega arith)) in
          let above : (c : ℕ) → suc (base + t) ≤ c → c < n → is_left words marks base bits c ≡ is_left words marks base bits' c =
          λ c g h. elim (dec_lt c (base + 64)) [
            | yes m ↦
                left_in words marks base bits c m ∙ ap (λ (b : ℕ). eqb b 1) (sym (clear_above 64 bits (c - base) low (omega arith)))
                ∙ sym (left_in words marks base bits' c m)
            | no f ↦ left_behind words marks base bits c (omega (arith, f)) ∙ sym (left_behind words marks base bits' c (omega (arith, f)))
          ] in
          skipped (is_left words marks base bits) base (base + t) n (omega arith) (omega arith) passed
          ∙ listed (is_left words marks base bits) (base + t) n l is
          ∙ ap (λ (m : List ℕ). (base + t) ∷ m) (
          same_listed (is_left words marks base bits) (is_left words marks base bits') (suc (base + t)) n above
          ∙ sym (skipped (is_left words marks base bits') base (suc (base + t)) n (omega arith) (omega arith) (λ d g h. cleared d g (omega arith)))
          )

  -- where a search begins
  module _ {j word : ℕ} (o : OpenWord words marks j word) (n : ℕ) where
    -- with a word
    pub left_all : (base : ℕ) → base ≡ 64 * j → left_of words marks n base word ≡ open_between words marks (64 * j) n
    left_all base e =
        rw (sym e) (same_listed (is_left words marks base word) (is_open words marks) base n (λ c g h. left_open (ahead_word o base e) c g))

    -- with a cell in it: `(word >> k) << k`
    pub left_from : (from : ℕ) → from / 64 ≡ j → from < n → word < 2 ^ 64
        → left_of words marks n (64 * j) ((word / 2 ^ (from % 64) * 2 ^ (from % 64)) % 2 ^ 64) ≡ open_between words marks from n
    left_from from e l fits = ahead_listed (ahead_cell o from e fits) n (omega arith)
