-- The tests of the soundness check in the order of the code, each cheap where it stands: the tally of the references read so far takes the place of a search.
-- Assumes nothing: these are definitions.
use Rattle.std.specs.Prelude.{ℕ, suc, ◌+◌, ◌*◌, ◌≤◌, ◌≡◌, List, [], ◌∷◌, Bool, true, ◌&&◌, cond, leb, eqb, length, get_or}
use Rattle.rules.specs.Lists.{every, all, below, distinct, occ, dangling}
use Rattle.rules.specs.Heap.{slots_of}
use Rattle.rules.specs.Check.{cell_ok}
use Rattle.laws.specs.Sound.Tally.{counters, Tallied, TallyRoom}

-- a reference that names one of n cells
unfoldable pub names : ℕ → ℕ → Bool
names n x = leb 1 x && leb x n

-- a cell's kind k and flags f are right, as if it had count 0 and no slots; if it is queued, q times, it is an object with flags 1
unfoldable pub shape_ok : ℕ → ℕ → ℕ → Bool
shape_ok k f q = cell_ok k f 0 [] && cond (eqb q 0) true (eqb k 1 && eqb f 1)

-- an object's slots are empty or name one of n cells; those of another cell are empty
unfoldable pub slots_ok : ℕ → ℕ → List ℕ → Bool
slots_ok n k s = cond (eqb k 1) (eqb (dangling n s) 0) (all (eqb 0) s)

-- a cell's count n is t, what was tallied, and 0 exactly if the cell is free
unfoldable pub count_matches : ℕ → ℕ → ℕ → Bool
count_matches k n t = eqb n t && cond (eqb k 0) (eqb n 0) (leb 1 n)

-- the same of cell c, in the tables; q and t have an entry for each cell, as a tally without its entry 0
abbrev pub shape_at : List ℕ → List ℕ → List ℕ → ℕ → Bool
shape_at k f q c = shape_ok (get_or k c 0) (get_or f c 0) (get_or q c 0)

abbrev pub slots_at : ℕ → List ℕ → List ℕ → ℕ → Bool
slots_at n k s c = slots_ok n (get_or k c 0) (slots_of s c)

abbrev pub count_at : List ℕ → List ℕ → List ℕ → ℕ → Bool
count_at k n t c = count_matches (get_or k c 0) (get_or n c 0) (get_or t c 0)

-- what is found with a tally of the queue's entries, then of the roots, then of the slots
unfoldable pub tally_ok : List ℕ → List ℕ → List ℕ → List ℕ → List ℕ → List ℕ → Bool
tally_ok kind flags count slots roots entries =
    every (distinct entries ∷ all (names (length kind)) entries
    ∷ below (length kind) (λ c. shape_ok (get_or kind c 0) (get_or flags c 0) (occ (suc c) entries))
    ∷ eqb (dangling (length kind) roots) 0
    ∷ below (length kind) (slots_at (length kind) kind slots)
    ∷ below (length kind) (λ c. count_matches (get_or kind c 0) (get_or count c 0) (occ (suc c) entries + occ (suc c) roots + occ (suc c) slots)) ∷ [])

-- what tallying the slots of one cell comes to: `before` and `after` are the tally, `wrong` and r the faults found so far
pub record CellTallied (before after : List ℕ) (kind : ℕ) (slots : List ℕ) (wrong r : ℕ) : Type 0 where
  pub more : wrong ≤ r
  pub most : r ≤ wrong + 8
  pub room : (k : ℕ) → TallyRoom before (8 + k) → TallyRoom after k
  pub right : r ≡ wrong → (slots_ok (counters before) kind slots ≡ true) × Tallied before slots after
  pub bad : slots_ok (counters before) kind slots ≡ true → r ≡ wrong

-- tables whose lengths fit, as far as the tally goes by them, and a tally of zeros, one more than there are cells
pub record Scratch (tally kind flags count slots roots entries : List ℕ) : Type 0 where
  pub most : length kind ≤ 1024
  pub flags_size : length flags ≡ length kind
  pub count_size : length count ≡ length kind
  pub slots_size : length slots ≡ 8 * length kind
  pub roots_size : length roots ≡ 64
  pub few : length entries ≤ length kind
  pub tally_size : length tally ≡ suc (length kind)
  pub clear : (x : ℕ) → get_or tally x 0 ≡ 0
