-- Laws of the number of cells that have a bit: word by word, and what it says of the cells.
-- Assumes nothing.
use Rattle.std.specs.Prelude.{ℕ, zero, suc, ◌+◌, ◌-◌, ◌*◌, ◌/◌, ◌%◌, ◌^◌, ◌≤◌, ◌<◌, List, ◌++◌, false, ◌≡◌, refl, length, get_or}
use Rattle.std.proofs.Math.Decide.{dec_lt}
use Rattle.std.proofs.Common.{arith, sym, ap, ◌∙◌, length-append, ext_get_or, get_or-append-add}
use Rattle.std.specs.Int.Count.{ones}
use Rattle.std.proofs.Math.ListN.{get_or-append}
use Rattle.rules.specs.Lists.{occ, tabulate}
use Rattle.rules.specs.Words.{bit, bit_of, bits_of, is_open, NoBitsFrom, CountsMarks}
use Rattle.laws.specs.Lists.Tests.{fails}
use Rattle.laws.specs.Lists.Occ.{occ-append, occ-length, occ_snoc_there, occ_grows}
use Rattle.laws.specs.Words.Bits.{bits, length_bits, get_or-bits, ones_bits}
use Rattle.laws.specs.Words.Cells.{bit_of_past, open_is, length-bits_of, get_or-bits_of, get_or-bits_of_past}

-- no more than the cells
pub count_le : (n : ℕ) (words : List ℕ) → occ 1 (bits_of n words) ≤ n
count_le n words = omega (arith, occ-length 1 (bits_of n words), length-bits_of n words)

-- one word more: its cells
bits_word : (words : List ℕ) (j : ℕ) → bits_of (64 * j + 64) words ≡ bits_of (64 * j) words ++ bits 64 (get_or words j 0)
unfolding bit_of
bits_word words j =
    let p : List ℕ = bits_of (64 * j) words in
    let b : List ℕ = bits 64 (get_or words j 0) in
    let len : length p ≡ 64 * j = length-bits_of (64 * j) words in
    ext_get_or 0 (bits_of (64 * j + 64) words) (p ++ b)
    (omega (arith, length-bits_of (64 * j + 64) words, length-append p b, length_bits 64 (get_or words j 0)))
    (λ d l.
    let ld : d < 64 * j + 64 = omega (arith, length-bits_of (64 * j + 64) words) in
    get_or-bits_of (64 * j + 64) words d ld ∙ elim (dec_lt d (64 * j)) [
      | yes m ↦ sym (get_or-append p b 0 d (omega arith) ∙ get_or-bits_of (64 * j) words d m)
      | no f ↦
          let word : d / 64 ≡ j = omega arith in
          let at : d ≡ length p + d % 64 = omega arith in
          let read : get_or (p ++ b) d 0 ≡ bit (get_or words j 0) (d % 64) =
          ap (λ (x : ℕ). get_or (p ++ b) x 0) at ∙ get_or-append-add p b (d % 64) 0 ∙ get_or-bits 64 (get_or words j 0) (d % 64) (omega arith) in
          ap (λ (x : ℕ). bit (get_or words x 0) (d % 64)) word ∙ sym read
    ])

-- and its ones
pub count_word : (words : List ℕ) (j : ℕ) → get_or words j 0 < 2 ^ 64
    → occ 1 (bits_of (64 * (j + 1)) words) ≡ occ 1 (bits_of (64 * j) words) + ones (get_or words j 0)
count_word words j h =
    let e : 64 * (j + 1) ≡ 64 * j + 64 = omega arith in
    rw (e, bits_word words j, occ-append)
    (ap (λ (x : ℕ). occ 1 (bits_of (64 * j) words) + x) (sym (ones_bits 64 (get_or words j 0) h)))

-- cells that have no bit don't count
count_past : (n k : ℕ) (words : List ℕ) → NoBitsFrom n words → occ 1 (bits_of (n + k) words) ≡ occ 1 (bits_of n words)
unfolding bits_of tabulate
count_past n zero words none = let e : n + 0 ≡ n = omega arith in rw e refl
count_past n (suc k) words none =
    let e : n + suc k ≡ suc (n + k) = omega arith in
    rw e
    (occ_snoc_there 1 (bit_of words (n + k)) (bits_of (n + k) words) (λ z. omega (arith, none (n + k) (omega arith))) ∙ count_past n k words none)

pub counts_marks : CountsMarks
counts_marks n words l none =
    let e : n + (64 * length words - n) ≡ 64 * length words = omega arith in
    rw e at (count_past n (64 * length words - n) words none)

-- where all that is marked is used, and as many are marked as used, no used cell is unmarked
pub all_marked : (marks used : List ℕ) → length used ≡ length marks → ((c : ℕ) → bit_of marks c ≡ 1 → bit_of used c ≡ 1)
    → occ 1 (bits_of (64 * length marks) marks) ≡ occ 1 (bits_of (64 * length used) used) → (c : ℕ) → is_open used marks c ≡ false
all_marked marks used e kept same c = fails (is_open used marks c) (λ o.
    let n : ℕ = 64 * length marks in
    let m : ℕ = 64 * length used in
    let found = open_is used marks c o in
    let inside : c < m = elim (dec_lt c m) [ yes l ↦ l | no f ↦ absurd (omega (arith, bit_of_past used c (omega arith))) ] in
    let keeps : (d : ℕ) → get_or (bits_of n marks) d 0 ≡ 1 → get_or (bits_of m used) d 0 ≡ 1 =
    λ d z. elim (dec_lt d n) [
      | yes l ↦ get_or-bits_of m used d (omega arith) ∙ kept d (sym (get_or-bits_of n marks d l) ∙ z)
      | no f ↦ absurd (omega (arith, get_or-bits_of_past n marks d (omega arith)))
    ] in
    let more =
    occ_grows 1 (bits_of n marks) (bits_of m used) (omega (arith, length-bits_of n marks, length-bits_of m used)) keeps c
    (omega (arith, length-bits_of n marks)) (λ z. omega (arith, get_or-bits_of n marks c (omega arith)))
    (get_or-bits_of m used c inside ∙ found.0) in
    omega (arith, more))
