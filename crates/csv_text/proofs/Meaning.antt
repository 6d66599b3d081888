-- What a reader means: the records that it and the rest of the input say. The line so far is not kept, so the meaning tells what any rest of it says.
-- Assumes nothing: these are definitions.
use Prim.Native.Nat.{ℕ, ◌+◌, ◌*◌, ◌-◌}
use mathlib.Core.List.{List, [], ◌∷◌, map}
use mathlib.Core.Bool.{Bool, true, ◌&&◌, cond}
use lib.Dec.{eqb, leb, ltb}
use lib.ListN.{length, drop}
use Rattle.csv_text.specs.Lines.{Record, malformed, all, lines_of, fields_of, is_digit, value_from, value_of, is_number, four, record_of}
use Rattle.csv_text.specs.declared.reader.Reader.{Reader}

-- further bytes of a field that has n digits so far, of the value d, leave it a number
unfoldable pub grows : ℕ → ℕ → List ℕ → Bool
grows n d [] = true
grows n d (b ∷ f) = is_digit b && (ltb n 5 && (leb (d * 10 + (b - 48)) 65535 && grows (n + 1) (d * 10 + (b - 48)) f))

-- what a line says whose last fields are these: the first of them goes on where the reader stopped
unfoldable pub record_from : Reader → List (List ℕ) → Record
record_from s [] = malformed
record_from s (f ∷ fs) =
    cond (eqb (s.field + length fs) 3 && (leb 1 (s.digits + length f) && (grows s.digits s.d f && all is_number fs)))
    (four (drop (length fs) (s.a ∷ s.b ∷ s.c ∷ value_from s.d f ∷ map value_of fs))) malformed

-- at the end of the input: nothing, if the line is empty so far
unfoldable pub closing : Reader → List Record
closing s = cond (eqb (s.field + s.digits) 0) [] (record_from s ([] ∷ []) ∷ [])

-- with these lines to come, of which the first goes on where the reader stopped
unfoldable pub resumed : Reader → List (List ℕ) → List Record
resumed s [] = closing s
resumed s (l ∷ ls) = record_from s (fields_of l) ∷ map record_of ls

-- with these bytes to come; a CR is kept back until the next byte
unfoldable pub meaning : Reader → List ℕ → List Record
meaning s rest = resumed s (lines_of (cond (eqb s.cr 0) rest (13 ∷ rest)))
