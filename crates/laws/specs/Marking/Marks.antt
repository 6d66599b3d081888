-- What is said of marks and of tables of references. Marks are 0 unmarked, 1 marked, 2 noted (to be marked by a later scan).
-- Assumes nothing: these are definitions.
use Rattle.std.specs.Prelude.{ℕ, ◌*◌, ◌≤◌, ◌<◌, List, ◌⊎◌, ◌≡◌, eqb, length, get_or}
use Rattle.rules.specs.Heap.{slots_of}
use Rattle.rules.specs.Reach.{Holds}
use Rattle.rules.specs.Words.{LowestFrom}

-- ---- references

-- some entry of the table names cell c
abbrev pub Names : List ℕ → ℕ → Type 0
Names table c = (i : ℕ) × Holds table i c

-- every reference is empty or names one of n cells
abbrev pub Within : ℕ → List ℕ → Type 0
Within n table = (i : ℕ) → get_or table i 0 ≤ n

-- the slots table of n cells
pub record Slots (slots : List ℕ) (n : ℕ) : Type 0 where
  pub fit : length slots ≡ 8 * n
  pub within : Within n slots

-- ---- marks

-- the cell has a mark that is not 0
abbrev pub Held : List ℕ → ℕ → Type 0
Held m d = 0 < get_or m d 0

-- every mark is 0 or 1
abbrev pub Bits : List ℕ → Type 0
Bits m = (d : ℕ) → get_or m d 0 ≤ 1

-- marks lie within P
abbrev pub Only : (ℕ → Type 0) → List ℕ → Type 0
Only P m = (d : ℕ) → Held m d → P d

-- P has with each cell the cells that its slots name
abbrev pub Closed : List ℕ → (ℕ → Type 0) → Type 0
Closed slots P = (c d : ℕ) → P c → Names (slots_of slots c) d → P d

-- marks of 0 and 1 that are closed under slots
pub record ClosedMarks (slots m : List ℕ) : Type 0 where
  pub bits : Bits m
  pub closed : Closed slots (Held m)

-- ---- steps of marking

-- the marks go from m to m' by marking from the references in a table
pub record Marked (slots table m m' : List ℕ) : Type 0 where
  pub kept : (d : ℕ) → get_or m d 0 ≡ 1 → get_or m' d 0 ≡ 1
  pub held : (d : ℕ) → Held m d → Held m' d
  pub states : ((d : ℕ) → get_or m d 0 ≤ 2) → (d : ℕ) → get_or m' d 0 ≤ 2
  -- every cell that the table names is marked or noted
  pub lists : (d : ℕ) → Names table d → Held m' d
  -- nothing outside any closed set that has what was held and what the table names
  pub least : (p : List ℕ) → Closed slots (Held p) → Only (Held p) m → ((d : ℕ) → Names table d → Held p d) → Only (Held p) m'
  -- a cell that is newly marked has all that its slots name marked or noted
  pub done : (d : ℕ) → get_or m' d 0 ≡ 1 → (get_or m d 0 ≡ 1) ⊎ ((e : ℕ) → Names (slots_of slots d) e → Held m' e)

abbrev pub NoneNoted : List ℕ → Type 0
NoneNoted m = (d : ℕ) → get_or m d 0 ≡ 2 → ⊥

-- r is the first noted cell from lo up to hi, or hi
abbrev pub FirstNoted : List ℕ → ℕ → ℕ → ℕ → Type 0
FirstNoted m = LowestFrom (λ c. eqb (get_or m c 0) 2)

-- r is a noted cell, or the number of cells and none is noted
pub record NextNoted (m : List ℕ) (r : ℕ) : Type 0 where
  pub within : r ≤ length m
  pub found : r < length m → get_or m r 0 ≡ 2
  pub none : length m ≤ r → NoneNoted m
