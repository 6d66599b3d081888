-- The marks that the words of a marking have, and their laws: a bit read is a mark read, words that are all zero have none, and where none is noted the
-- first half has them all.
-- Assumes nothing.
use Prim.Native.Nat.{ℕ, zero, suc, ◌+◌, ◌-◌, ◌*◌, ◌/◌, ◌%◌, ◌^◌, ◌≤◌, ◌<◌}
use Rattle.std.proofs.Common.{arith, sym, ◌∙◌, ext_get_or, get_or-take, get_or-drop}
use Rattle.std.proofs.Math.Decide.{ℕ_discrete, dec_lt}
use borrow.Author.Tests.{eq-eqb, ne_eqb}
use Rattle.std.specs.Prelude.{List, true, not, ◌&&◌, ◌≡◌, eqb, length, take, replicate}
use Rattle.std.proofs.Math.Path.{refl, ap}
use Rattle.std.proofs.Math.Arith.{lt_of_le-ne}
use Rattle.std.proofs.Math.ListN.{get_or, length-take, get_or-eq_default}
use Rattle.std.proofs.lemmas.List.{length-replicate}
use Rattle.rules.specs.Depth.{to_mark, noted_between}
use Rattle.rules.specs.Words.{bit, bit_of, marked_of, noted_of, mark_of, marks_of, bits_of, is_open, next_open, NoBitsFrom}
use Rattle.laws.specs.Lists.Tables.{get_or-zeros}
use Rattle.laws.specs.Marking.Marks.{Bits}
use Rattle.laws.specs.Marking.Steps.{mark_test}
use Rattle.laws.specs.Lists.Tests.{and_no}
use Rattle.laws.specs.Words.Search.{first_law, first_only, lowest_same, open_law}
use Rattle.laws.specs.Words.Bits.{bit_none}
use Rattle.laws.specs.Words.Cells.{length-tabulate, get_or-tabulate, length-bits_of, get_or-bits_of, bit_of_le}

-- words for the marks of n cells: both halves have a bit for each of them, and no other bit is set
pub record WordsFor (n : ℕ) (words : List ℕ) : Type 0 where
  pub some : 0 < n
  pub room : n ≤ 64 * (length words / 2)
  pub spare : (c : ℕ) → n ≤ c → mark_of words c ≡ 0

-- these words have these marks
pub record HasMarks (n : ℕ) (words m : List ℕ) : Type 0 where
  pub fits : WordsFor n words
  pub marks : marks_of n words ≡ m

-- ---- reading

pub length_marks : (n : ℕ) (words : List ℕ) → length (marks_of n words) ≡ n
unfolding marks_of
length_marks n words = length-tabulate (mark_of words) n

pub get_or-marks : (n : ℕ) (words : List ℕ) (c : ℕ) → c < n → get_or (marks_of n words) c 0 ≡ mark_of words c
unfolding marks_of
get_or-marks n words c h = get_or-tabulate (mark_of words) n c h

pub length_marked : (words : List ℕ) → length (marked_of words) ≡ length words / 2
length_marked words = length-take (length words / 2) words ∙ omega arith

-- a cell's two bits
module _ (words : List ℕ) (c : ℕ) where
  pub marked_bit : c / 64 < length words / 2 → bit_of (marked_of words) c ≡ bit (get_or words (c / 64) 0) (c % 64)
  unfolding bit_of
  marked_bit h = ap (λ (w : ℕ). bit w (c % 64)) (get_or-take (length words / 2) words (c / 64) 0 h)

  pub marked_past : length words / 2 ≤ c / 64 → bit_of (marked_of words) c ≡ 0
  unfolding bit_of
  marked_past h =
      ap (λ (w : ℕ). bit w (c % 64)) (get_or-eq_default (take (length words / 2) words) 0 {n = c / 64} (omega (arith, length-take (length words / 2) words))) ∙ bit_none (c % 64)

  pub noted_bit : bit_of (noted_of words) c ≡ bit (get_or words (length words / 2 + c / 64) 0) (c % 64)
  unfolding bit_of
  noted_bit = ap (λ (w : ℕ). bit w (c % 64)) (get_or-drop (length words / 2) words (c / 64) 0)

  -- and its mark
  pub mark_set : bit_of (marked_of words) c ≡ 1 → mark_of words c ≡ 1
  unfolding mark_of
  mark_set e = rw (eq-eqb (bit_of (marked_of words) c) 1 e) refl

  pub mark_clear : bit_of (marked_of words) c ≡ 0 → mark_of words c ≡ 2 * bit_of (noted_of words) c
  unfolding mark_of
  mark_clear e = rw (ne_eqb (bit_of (marked_of words) c) 1 (λ one. omega arith)) refl

  -- a mark of 1 is a bit of the first half
  mark_bit : mark_of words c ≡ 1 → bit_of (marked_of words) c ≡ 1
  mark_bit e = elim (ℕ_discrete (bit_of (marked_of words) c) 1) [
    | yes is ↦ is
    | no f ↦ absurd (omega (arith, mark_clear (let l : bit_of (marked_of words) c < 1 = lt_of_le-ne (bit_of_le (marked_of words) c) f in omega arith)))
  ]

  -- a cell without a mark has no bit there
  mark_none : mark_of words c ≡ 0 → bit_of (marked_of words) c ≡ 0
  mark_none e = elim (ℕ_discrete (bit_of (marked_of words) c) 0) [
    | yes is ↦ is
    | no f ↦
        let one : bit_of (marked_of words) c ≡ 1 = omega (arith, bit_of_le (marked_of words) c, f) in
        absurd (omega (arith, mark_set one))
  ]

  -- what a reference to the cell asks: whether the cell's word, shifted by the place of its bit, is even
  bit_test : c / 64 < length words / 2 → eqb (get_or words (c / 64) 0 / 2 ^ (c % 64) % 2) 0 ≡ not (eqb (mark_of words c) 1)
  unfolding bit
  bit_test h =
      let b : ℕ = get_or words (c / 64) 0 / 2 ^ (c % 64) % 2 in
      elim (ℕ_discrete (bit_of (marked_of words) c) 1) [
        | yes e ↦ rw (ne_eqb b 0 (λ z. omega (arith, marked_bit h)), eq-eqb (mark_of words c) 1 (mark_set e)) refl
        | no f ↦
            let none : bit_of (marked_of words) c ≡ 0 = omega (arith, bit_of_le (marked_of words) c, f) in
            rw (eq-eqb b 0 (sym (marked_bit h) ∙ none), ne_eqb (mark_of words c) 1 (λ z. f (mark_bit z))) refl
      ]

-- a reference that is not empty, to a cell that has a word
pub test_reference : (n : ℕ) (words : List ℕ) (r : ℕ) → (r ≡ 0 → ⊥) → r ≤ n → r ≤ 64 * (length words / 2)
    → eqb (get_or words ((r - 1) / 64) 0 / 2 ^ ((r - 1) % 64) % 2) 0 ≡ to_mark (marks_of n words) r
test_reference n words r some h room =
    bit_test words (r - 1) (omega arith) ∙ ap (λ (x : ℕ). not (eqb x 1)) (sym (get_or-marks n words (r - 1) (omega arith))) ∙ mark_test (marks_of n words) r some

-- ---- words that are all zero: every cell is unmarked

zero_bit : (k j i : ℕ) → bit (get_or {A = ℕ} (replicate k 0) j 0) i ≡ 0
zero_bit k j i = ap (λ (w : ℕ). bit w i) (get_or-zeros k j) ∙ bit_none i

mark_zeros : (k c : ℕ) → mark_of (replicate k 0) c ≡ 0
mark_zeros k c =
    let words : List ℕ = replicate k 0 in
    let clear : bit_of (marked_of words) c ≡ 0 = elim (dec_lt (c / 64) (length words / 2)) [
      | yes l ↦ marked_bit words c l ∙ zero_bit k (c / 64) (c % 64)
      | no f ↦ marked_past words c (omega arith)
    ] in
    mark_clear words c clear ∙ ap (λ (b : ℕ). 2 * b) (noted_bit words c ∙ zero_bit k (length words / 2 + c / 64) (c % 64))

pub marks_zeros : (n k : ℕ) → marks_of n (replicate k 0) ≡ replicate n 0
marks_zeros n k =
    ext_get_or 0 (marks_of n (replicate k 0)) (replicate n 0) (length_marks n (replicate k 0) ∙ sym (length-replicate n 0)) (λ d l.
    get_or-marks n (replicate k 0) d (omega (arith, length_marks n (replicate k 0))) ∙ mark_zeros k d ∙ sym (get_or-zeros n d))

pub words_zeros : (n k : ℕ) → 0 < n → n ≤ 64 * (k / 2) → WordsFor n (replicate k 0)
words_zeros n k some room = record { some = some; room = omega (arith, length-replicate {A = ℕ} k 0); spare = λ c l. mark_zeros k c }

-- ---- marks without notes: the first half has them all

module _ (n : ℕ) (words m : List ℕ) (p : HasMarks n words m) where
  pub marked_bits : Bits m → bits_of n (marked_of words) ≡ m
  marked_bits b =
      ext_get_or 0 (bits_of n (marked_of words)) m (length-bits_of n (marked_of words) ∙ sym (ap length (sym p.marks) ∙ length_marks n words)) (λ d l.
      let ld : d < n = omega (arith, length-bits_of n (marked_of words)) in
      let is : mark_of words d ≡ get_or m d 0 = sym (get_or-marks n words d ld) ∙ ap (λ (x : List ℕ). get_or x d 0) p.marks in
      get_or-bits_of n (marked_of words) d ld ∙ plain d is (b d))
    where
      plain : (d : ℕ) {v : ℕ} → mark_of words d ≡ v → v ≤ 1 → bit_of (marked_of words) d ≡ v
      plain d e l = elim (ℕ_discrete (bit_of (marked_of words) d) 1) [
        | yes one ↦ omega (arith, mark_set words d one)
        | no f ↦
            let none : bit_of (marked_of words) d ≡ 0 = omega (arith, bit_of_le (marked_of words) d, f) in
            omega (arith, mark_clear words d none)
      ]

  -- and no bit past the cells
  pub marked_spare : NoBitsFrom n (marked_of words)
  marked_spare c l = mark_none words c (p.fits.spare c l)

-- ---- the next noted cell

-- a bit in the second half and none in the first
open_noted : (words : List ℕ) (c : ℕ) → is_open (noted_of words) (marked_of words) c ≡ eqb (mark_of words c) 2
unfolding is_open
open_noted words c = elim (ℕ_discrete (bit_of (marked_of words) c) 0) [
  | yes e ↦ rw (eq-eqb (bit_of (marked_of words) c) 0 e, mark_clear words c e) (twice (bit_of (noted_of words) c) (bit_of_le (noted_of words) c))
  | no f ↦
      let one : bit_of (marked_of words) c ≡ 1 = omega (arith, bit_of_le (marked_of words) c, f) in
      rw (ne_eqb (bit_of (marked_of words) c) 0 f, mark_set words c one) (and_no (eqb (bit_of (noted_of words) c) 1) refl)
]
  where
    twice : (b : ℕ) → b ≤ 1 → (eqb b 1 && true) ≡ eqb (2 * b) 2
    twice zero l = refl
    twice (suc zero) l = refl
    twice (suc (suc b)) l = absurd (omega arith)

pub next_noted_word : (n : ℕ) (words : List ℕ) (lo : ℕ) → lo ≤ n → next_open (noted_of words) (marked_of words) lo n ≡ noted_between (marks_of n words) lo n
unfolding noted_between
next_noted_word n words lo h =
    let same : (c : ℕ) → c < n → is_open (noted_of words) (marked_of words) c ≡ eqb (get_or (marks_of n words) c 0) 2 =
    λ c l. open_noted words c ∙ ap (λ (x : ℕ). eqb x 2) (sym (get_or-marks n words c l)) in
    first_only (lowest_same same (open_law (noted_of words) (marked_of words) lo n h)) (first_law (λ c. eqb (get_or (marks_of n words) c 0) 2) lo n h)
