-- Document 02, Q-6: "put the marks of a sweep in 64-bit words, one bit per cell, and find the next unmarked used cell and the number of marked cells with
-- the processor's own bit counts. Keep the old marks as the plain definition". What words say of cells, for any number of both.
-- Assumes nothing: these are definitions.
use Rattle.std.specs.Prelude.{ℕ, ◌-◌, ◌*◌, ◌/◌, ◌%◌, ◌^◌, ◌≤◌, ◌<◌, List, Bool, true, false, not, ◌&&◌, cond, ◌↔◌, ◌≡◌, eqb, length, get_or, take, drop}
use Rattle.rules.specs.Lists.{occ, tabulate}
use Rattle.rules.specs.Depth.{first_from}

-- ---- marks

-- bit i of a word
unfoldable pub bit : ℕ → ℕ → ℕ
bit word i = word / 2 ^ i % 2

-- "one bit per cell": cell c has bit c % 64 of word c / 64
unfoldable pub bit_of : List ℕ → ℕ → ℕ
bit_of words c = bit (get_or words (c / 64) 0) (c % 64)

-- "the words' picture": the bits of n cells, 0 unmarked and 1 marked
unfoldable pub bits_of : ℕ → List ℕ → List ℕ
bits_of n words = tabulate (bit_of words) n

-- the words of a marking: those of the marked cells come first, and then as many of the noted
abbrev pub marked_of : List ℕ → List ℕ
marked_of words = take (length words / 2) words

abbrev pub noted_of : List ℕ → List ℕ
noted_of words = drop (length words / 2) words

-- the mark of a cell, as `Depth` has it: 1 marked, 2 noted and not marked, 0 neither
unfoldable pub mark_of : List ℕ → ℕ → ℕ
mark_of words c = cond (eqb (bit_of (marked_of words) c) 1) 1 (2 * bit_of (noted_of words) c)

-- "the words' picture" of a marking: the marks of n cells
unfoldable pub marks_of : ℕ → List ℕ → List ℕ
marks_of n words = tabulate (mark_of words) n

-- ---- "the next unmarked used cell"

-- the used cells of a kind table have a bit, and no other number has
abbrev pub UsedBits : List ℕ → List ℕ → Type 0
UsedBits kind words = (c : ℕ) → bit_of words c ≡ cond (eqb (get_or kind c 0) 0) 0 1

-- a bit in these words and none in the marks
unfoldable pub is_open : List ℕ → List ℕ → ℕ → Bool
is_open words marks c = eqb (bit_of words c) 1 && eqb (bit_of marks c) 0

-- the lowest such from `from` on, or n
unfoldable pub next_open : List ℕ → List ℕ → ℕ → ℕ → ℕ
next_open words marks from n = first_from (is_open words marks) from (n - from)

-- "the lowest such from a given one on, none exactly if there is none": r, or none where r is n
pub record LowestFrom (p : ℕ → Bool) (from n r : ℕ) : Type 0 where
  pub within : (from ≤ r) × (r ≤ n)
  pub passes : r < n → p r ≡ true
  pub lowest : (d : ℕ) → from ≤ d → d < r → p d ≡ false
  pub none : (r ≡ n) ↔ ((d : ℕ) → from ≤ d → d < n → p d ≡ false)

-- the cell found is that, by the plain marks: a used cell whose mark is 0
abbrev pub FindsLowest : Type 0
FindsLowest =
    (kind used marks : List ℕ) → UsedBits kind used → (from : ℕ) → from ≤ length kind
    → LowestFrom (λ c. not (eqb (get_or kind c 0) 0) && eqb (get_or (bits_of (length kind) marks) c 0) 0) from (length kind) (next_open used marks from (length kind))

-- ---- "the number of marked cells"

-- no bit past n cells
abbrev pub NoBitsFrom : ℕ → List ℕ → Type 0
NoBitsFrom n words = (c : ℕ) → n ≤ c → bit_of words c ≡ 0

-- "the number is theirs": all ones of the words are marks of the n cells
abbrev pub CountsMarks : Type 0
CountsMarks = (n : ℕ) (words : List ℕ) → n ≤ 64 * length words → NoBitsFrom n words → occ 1 (bits_of (64 * length words) words) ≡ occ 1 (bits_of n words)
