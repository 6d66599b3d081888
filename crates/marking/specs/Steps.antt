-- What the parts of marking do to words: the plain step, on the marks that the words have, for every number of cells.
-- Assumes nothing: these are definitions.
use Rattle.std.specs.Prelude.{ℕ, ◌/◌, ◌≤◌, ◌<◌, List, Bool, ◌≡◌, length, get_or, set, replicate}
use Rattle.rules.specs.Depth.{to_mark}
use Rattle.rules.specs.Words.{marks_of}
use Rattle.laws.specs.Words.Marks.{WordsFor, HasMarks}

-- the number of cells that a slots table is for
abbrev pub cells_of : List ℕ → ℕ
cells_of slots = length slots / 8

-- "starts all unmarked"
abbrev pub Unmarked : List ℕ → Type 0
Unmarked words = (n : ℕ) → marks_of n words ≡ replicate n 0

-- b says whether a reference names a cell that is not marked
abbrev pub ToMark : List ℕ → ℕ → Bool → Type 0
ToMark words r b = (n : ℕ) → r ≤ n → b ≡ to_mark (marks_of n words) r

-- cell c was marked
abbrev pub CellMarked : List ℕ → ℕ → List ℕ → Type 0
CellMarked words c words' = (n : ℕ) → WordsFor n words → c < n → HasMarks n words' (set (marks_of n words) c 1)

-- cell c, which was not marked, was noted
abbrev pub CellNoted : List ℕ → ℕ → List ℕ → Type 0
CellNoted words c words' = (n : ℕ) → WordsFor n words → c < n → (get_or (marks_of n words) c 0 ≡ 1 → ⊥) → HasMarks n words' (set (marks_of n words) c 2)
