-- A search through words, by what is left of it, and by the list of the cells that are left.
-- Assumes nothing: these are definitions.
use Rattle.std.specs.Prelude.{ℕ, zero, suc, ◌+◌, ◌-◌, ◌*◌, ◌/◌, ◌≤◌, ◌<◌, List, [], ◌∷◌, Bool, true, cond, ◌≡◌, eqb, ltb, Option, Some, None}
use Rattle.numbers.specs.declared.cell.Cell.{Cell}
use Rattle.rules.specs.Words.{bit, is_open, next_open}
use Rattle.words.specs.declared.search.Rest.{Rest}

-- the bits of a word are its open cells, those of word j
pub record OpenWord (words marks : List ℕ) (j word : ℕ) : Type 0 where
  pub has : (i : ℕ) → i < 64 → is_open words marks (64 * j + i) ≡ true → bit word i ≡ 1
  pub only : (i : ℕ) → bit word i ≡ 1 → (i < 64) × (is_open words marks (64 * j + i) ≡ true)

-- the open cells from `from` on are left: in the word that begins at `base` those that have a bit in `bits`, and all of the words after it
pub record Ahead (words marks : List ℕ) (from base bits : ℕ) : Type 0 where
  pub whole : 64 * (base / 64) ≡ base
  pub near : (base ≤ from) × (from ≤ base + 64)
  pub has : (d : ℕ) → from ≤ d → d < base + 64 → is_open words marks d ≡ true → bit bits (d - base) ≡ 1
  pub only : (i : ℕ) → bit bits i ≡ 1 → (i < 64) × (from ≤ base + i) × (is_open words marks (base + i) ≡ true)

-- the same of n cells, of which the word at `base` has one
abbrev pub Left : List ℕ → List ℕ → ℕ → ℕ → Rest → Type 0
Left words marks n from rest = (rest.base < n) × Ahead words marks from rest.base rest.bits

-- of any number of cells, all open ones from `from` on are left
abbrev pub AllFrom : List ℕ → List ℕ → ℕ → Rest → Type 0
AllFrom words marks from rest = (n : ℕ) → from < n → Left words marks n from rest

-- the lowest open cell from `from` on was found, and those after it are left; or there is none
abbrev pub FoundFrom : List ℕ → List ℕ → ℕ → ℕ → Option (Cell × Rest) → Type 0
FoundFrom words marks n from (Some found) =
    (found.0.0 ≡ next_open words marks from n) × (next_open words marks from n < n) × Left words marks n (suc (next_open words marks from n)) found.1
FoundFrom words marks n from None = n ≤ next_open words marks from n

-- wherever the cells that are left begin
abbrev pub FoundIn : List ℕ → List ℕ → ℕ → Rest → Option (Cell × Rest) → Type 0
FoundIn words marks n rest r = (from : ℕ) → Left words marks n from rest → FoundFrom words marks n from r

-- ---- as a list

-- of the k numbers from `from` on those that pass, lowest first
unfoldable pub all_from : (ℕ → Bool) → ℕ → ℕ → List ℕ
all_from p from zero = []
all_from p from (suc k) = cond (p from) (from ∷ all_from p (suc from) k) (all_from p (suc from) k)

-- of the numbers from `from` up to n
abbrev pub all_between : (ℕ → Bool) → ℕ → ℕ → List ℕ
all_between p from n = all_from p from (n - from)

-- the open cells from `from` on, of n
abbrev pub open_between : List ℕ → List ℕ → ℕ → ℕ → List ℕ
open_between words marks = all_between (is_open words marks)

-- a cell of the word that begins at `base` is left where it has a bit in `bits`, and one behind that word where it is open
unfoldable pub is_left : List ℕ → List ℕ → ℕ → ℕ → ℕ → Bool
is_left words marks base bits c = cond (ltb c (base + 64)) (eqb (bit bits (c - base)) 1) (is_open words marks c)

-- the cells that are left, of n
abbrev pub left_of : List ℕ → List ℕ → ℕ → ℕ → ℕ → List ℕ
left_of words marks n base bits = all_between (is_left words marks base bits) base n
