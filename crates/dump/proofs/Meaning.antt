-- What a state means: the table that the unfinished line says, with any rest of it. Assumes nothing: these are definitions.
use Prim.Native.Nat.{ℕ, ◌+◌, ◌<◌}
use mathlib.Core.Path.{◌≡◌}
use mathlib.Core.List.{List, [], ◌∷◌, ◌++◌, map}
use mathlib.Core.Bool.{true, false, ◌&&◌, ◌||◌, not, cond}
use lib.Dec.{eqb, leb}
use lib.ListN.{length}
use Rattle.csv_text.specs.Lines.{all, fields_of, value_from, value_of, is_number}
use Rattle.csv_text.proofs.Meaning.{grows}
use Rattle.dump.specs.Dumps.{unfit, table_of}
use Rattle.dump.specs.Reading.{State}
use Rattle.dump.specs.Holding.{size}

-- with these last fields, of which the first goes on where the reader stopped
unfoldable pub row_from : State → List (List ℕ) → List ℕ
row_from s [] = unfit
row_from s (f ∷ fs) =
    cond (leb 1 (s.reader.digits + length f) && (grows s.reader.digits s.reader.value f && all is_number fs))
    (s.row ++ (value_from s.reader.value f ∷ map value_of fs)) unfit

-- with these bytes; an empty line has no field
unfoldable pub line_from : State → List ℕ → List ℕ
line_from s l = cond (s.reader.begun || not (eqb (length l) 0)) (row_from s (fields_of l)) s.row

-- The state s stands behind the tables ts of its heap and the bytes p of the next line: it has these tables and means what the line says; or it is spoilt, and
-- whatever the line goes on with, the heap has more entries than the largest that fits.
pub data Knows (s : State) (ts : List (List ℕ)) (p : List ℕ) : Type 0 where
  exactly : s.reader.spoilt ≡ false → s.finished ≡ ts → s.reader.end ≡ size ts + length s.row
      → ((l : List ℕ) → table_of (p ++ l) ≡ line_from s l) → Knows s ts p
  over : s.reader.spoilt ≡ true → ((l : List ℕ) → 12354 < size ts + length (table_of (p ++ l))) → Knows s ts p

pub record Follows (s : State) (ts : List (List ℕ)) (p : List ℕ) : Type 0 where
  pub count : s.reader.tables ≡ length ts
  pub few : length ts < 7
  pub begun : s.reader.begun ≡ not (eqb (length p) 0)
  pub knows : Knows s ts p
