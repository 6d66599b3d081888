-- Laws of a bit that is set in the words of a marking: in the first half a cell is marked, in the second one that is not marked is noted.
-- Assumes nothing.
use Rattle.std.specs.Prelude.{ℕ, ◌+◌, ◌*◌, ◌/◌, ◌%◌, ◌^◌, ◌<◌, max, List, cond, ◌≡◌, eqb, length, get_or, set}
use Rattle.std.proofs.Common.{arith, sym, ◌∙◌, length-set, ext_get_or, get_or-set_same, get_or-set_other}
use Rattle.std.proofs.Math.Decide.{ℕ_discrete, dec_lt}
use Rattle.std.proofs.Math.Path.{ap}
use Rattle.std.specs.Int.Bits.{bit_or}
use Rattle.rules.specs.Words.{bit, bit_of, marked_of, noted_of, mark_of, marks_of}
use Rattle.laws.specs.Words.Bits.{bit_le, bit_or_lem, bit_power, bit_power_other, one_shl}
use Rattle.laws.specs.Words.Cells.{bit_of_le}
use Rattle.laws.specs.Words.Marks.{WordsFor, HasMarks, length_marks, get_or-marks, marked_bit, marked_past, noted_bit, mark_set, mark_clear}

-- bit i of word j is set
abbrev pub or_bit : List ℕ → ℕ → ℕ → List ℕ
or_bit words j i = set words j (bit_or (get_or words j 0) ((1 * 2 ^ i) % 2 ^ 64))

module _ (words : List ℕ) (j i : ℕ) (word : j < length words) (low : i < 64) where
  or_word : (k : ℕ) → bit (get_or (or_bit words j i) j 0) k ≡ max (bit (get_or words j 0) k) (bit (2 ^ i) k)
  or_word k = rw (get_or-set_same words j (bit_or (get_or words j 0) ((1 * 2 ^ i) % 2 ^ 64)) 0 word, one_shl i low) (bit_or_lem (get_or words j 0) (2 ^ i) k)

  or_here : bit (get_or (or_bit words j i) j 0) i ≡ 1
  or_here = omega (arith, or_word i, bit_le (get_or words j 0) i, bit_power i)

  or_there : (e k : ℕ) → ((e ≡ j) × (k ≡ i) → ⊥) → bit (get_or (or_bit words j i) e 0) k ≡ bit (get_or words e 0) k
  or_there e k f = elim (ℕ_discrete e j) [
    | yes is ↦ rw is (omega (arith, or_word k, bit_power_other i k (λ same. f (is, same))))
    | no g ↦ ap (λ (w : ℕ). bit w k) (get_or-set_other words j e (bit_or (get_or words j 0) ((1 * 2 ^ i) % 2 ^ 64)) 0 g)
  ]

-- marks of the same two bits
mark_same : (words words' : List ℕ) (c : ℕ) → bit_of (marked_of words') c ≡ bit_of (marked_of words) c → bit_of (noted_of words') c ≡ bit_of (noted_of words) c → mark_of words' c ≡ mark_of words c
unfolding mark_of
mark_same words words' c p q j = cond (eqb (p j) 1) 1 (2 * q j)

-- and the marks of n cells, where one cell's mark becomes v
marks_set : (n : ℕ) (words words' : List ℕ) (c v : ℕ) → c < n → mark_of words' c ≡ v → ((d : ℕ) → (d ≡ c → ⊥) → mark_of words' d ≡ mark_of words d)
    → marks_of n words' ≡ set (marks_of n words) c v
marks_set n words words' c v h here there =
    ext_get_or 0 (marks_of n words') (set (marks_of n words) c v) (length_marks n words' ∙ sym (length-set (marks_of n words) c v ∙ length_marks n words)) (λ d l.
    let ld : d < n = omega (arith, length_marks n words') in
    get_or-marks n words' d ld ∙ elim (ℕ_discrete d c) [
      | yes e ↦ rw e (here ∙ sym (get_or-set_same (marks_of n words) c v 0 (omega (arith, length_marks n words))))
      | no f ↦ there d f ∙ sym (get_or-marks n words d ld) ∙ sym (get_or-set_other (marks_of n words) c d v 0 f)
    ])

-- cell c has words in both halves; its bit is set in word j, which is in the first half or the second
module _ (words : List ℕ) (c : ℕ) (room : c / 64 < length words / 2) where
  half_same : (j : ℕ) → length (or_bit words j (c % 64)) / 2 ≡ length words / 2
  half_same j = ap (λ (k : ℕ). k / 2) (length-set words j (bit_or (get_or words j 0) ((1 * 2 ^ (c % 64)) % 2 ^ 64)))

  -- a half whose words were not written, or not at this bit
  module _ (j : ℕ) (word : j < length words) (d : ℕ) where
    marked_kept : (d / 64 < length words / 2 → (d / 64 ≡ j) × (d % 64 ≡ c % 64) → ⊥) → bit_of (marked_of (or_bit words j (c % 64))) d ≡ bit_of (marked_of words) d
    marked_kept f = elim (dec_lt (d / 64) (length words / 2)) [
      | yes l ↦
          marked_bit (or_bit words j (c % 64)) d (omega (arith, half_same j)) ∙ or_there words j (c % 64) word (omega arith) (d / 64) (d % 64) (f l) ∙ sym (marked_bit words d l)
      | no g ↦ marked_past (or_bit words j (c % 64)) d (omega (arith, half_same j)) ∙ sym (marked_past words d (omega arith))
    ]

    noted_kept : ((length words / 2 + d / 64 ≡ j) × (d % 64 ≡ c % 64) → ⊥) → bit_of (noted_of (or_bit words j (c % 64))) d ≡ bit_of (noted_of words) d
    noted_kept f =
        noted_bit (or_bit words j (c % 64)) d ∙ ap (λ (k : ℕ). bit (get_or (or_bit words j (c % 64)) (k + d / 64) 0) (d % 64)) (half_same j)
        ∙ or_there words j (c % 64) word (omega arith) (length words / 2 + d / 64) (d % 64) f ∙ sym (noted_bit words d)

  -- the cell is marked
  first_here : mark_of (or_bit words (c / 64) (c % 64)) c ≡ 1
  first_here =
      mark_set (or_bit words (c / 64) (c % 64)) c
      (marked_bit (or_bit words (c / 64) (c % 64)) c (omega (arith, half_same (c / 64))) ∙ or_here words (c / 64) (c % 64) (omega arith) (omega arith))

  first_there : (d : ℕ) → (d ≡ c → ⊥) → mark_of (or_bit words (c / 64) (c % 64)) d ≡ mark_of words d
  first_there d f =
      mark_same words (or_bit words (c / 64) (c % 64)) d
      (marked_kept (c / 64) (omega arith) d (λ _ p. f (omega (arith, p.0, p.1)))) (noted_kept (c / 64) (omega arith) d (λ p. omega (arith, p.0)))

  -- or, where it is not marked, noted
  second : ℕ
  second = length words / 2 + c / 64

  second_here : (mark_of words c ≡ 1 → ⊥) → mark_of (or_bit words second (c % 64)) c ≡ 2
  unfolding second
  second_here f =
      let unset : bit_of (marked_of words) c ≡ 1 → ⊥ = λ e. f (mark_set words c e) in
      let clear : bit_of (marked_of words) c ≡ 0 = omega (arith, bit_of_le (marked_of words) c, unset) in
      let one : bit_of (noted_of (or_bit words second (c % 64))) c ≡ 1 =
      noted_bit (or_bit words second (c % 64)) c ∙ ap (λ (k : ℕ). bit (get_or (or_bit words second (c % 64)) (k + c / 64) 0) (c % 64)) (half_same second)
      ∙ or_here words second (c % 64) (omega arith) (omega arith) in
      mark_clear (or_bit words second (c % 64)) c (marked_kept second (omega arith) c (λ _ p. omega (arith, p.0)) ∙ clear) ∙ ap (λ (b : ℕ). 2 * b) one

  second_there : (d : ℕ) → (d ≡ c → ⊥) → mark_of (or_bit words second (c % 64)) d ≡ mark_of words d
  unfolding second
  second_there d f =
      mark_same words (or_bit words second (c % 64)) d
      (marked_kept second (omega arith) d (λ l p. omega (arith, p.0))) (noted_kept second (omega arith) d (λ p. f (omega (arith, p.0, p.1))))

-- the same of the marks of n cells
module _ (n : ℕ) (words : List ℕ) (c : ℕ) (w : WordsFor n words) (h : c < n) where
  has_word : c / 64 < length words / 2
  has_word = omega (arith, w.room)

  has_set : (j v : ℕ) → mark_of (or_bit words j (c % 64)) c ≡ v → ((d : ℕ) → (d ≡ c → ⊥) → mark_of (or_bit words j (c % 64)) d ≡ mark_of words d)
      → HasMarks n (or_bit words j (c % 64)) (set (marks_of n words) c v)
  has_set j v here there = record {
    fits = record {
      some = w.some;
      room = omega (arith, w.room, half_same words c has_word j);
      spare = λ d l. there d (λ e. omega arith) ∙ w.spare d l;
    };
    marks = marks_set n words (or_bit words j (c % 64)) c v h here there;
  }

  pub has_marked : HasMarks n (or_bit words (c / 64) (c % 64)) (set (marks_of n words) c 1)
  has_marked = has_set (c / 64) 1 (first_here words c has_word) (first_there words c has_word)

  pub has_noted : (get_or (marks_of n words) c 0 ≡ 1 → ⊥) → HasMarks n (or_bit words (length words / 2 + c / 64) (c % 64)) (set (marks_of n words) c 2)
  unfolding second
  has_noted f = has_set (second words c has_word) 2 (second_here words c has_word (λ e. f (get_or-marks n words c h ∙ e))) (second_there words c has_word)
