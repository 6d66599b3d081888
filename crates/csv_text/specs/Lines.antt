-- Document 01, "The program": what an input says, line by line. Bytes are numbers here: 10 is LF, 13 CR, 44 the comma, 48 to 57 the digits.
-- Assumes nothing: these are definitions.
use Rattle.std.specs.Prelude.{ℕ, ◌+◌, ◌*◌, ◌-◌, List, [], ◌∷◌, map, Bool, true, ◌&&◌, cond, eqb, leb, length, get_or, Result, Ok, Err}
use Rattle.csv_text.specs.declared.reader.Numbers.{Numbers}
use Rattle.csv_text.specs.declared.reader.Malformed.{Malformed}

-- what a line says: four numbers, or it is malformed
abbrev pub Record : Type 0
Record = Result Numbers Malformed

abbrev pub numbers : ℕ → ℕ → ℕ → ℕ → Record
numbers a b c d = Ok (record { 0 = a; 1 = b; 2 = c; 3 = d })

abbrev pub malformed : Record
malformed = Err (record {})

-- does every entry pass
unfoldable pub all {ℓ} : {A : Type ℓ} → (A → Bool) → List A → Bool
all p [] = true
all p (x ∷ l) = p x && all p l

-- b in front of the first part, or a part of its own where there is none
unfoldable pub onto_first : ℕ → List (List ℕ) → List (List ℕ)
onto_first b [] = (b ∷ []) ∷ []
onto_first b (l ∷ ls) = (b ∷ l) ∷ ls

-- "CR LF, the last one optional": CR LF ends a line; "a lone CR or LF" does not, and is part of its line
unfoldable pub lines_of : List ℕ → List (List ℕ)
lines_of [] = []
lines_of (b ∷ []) = (b ∷ []) ∷ []
lines_of (b ∷ (c ∷ s)) = cond (eqb b 13 && eqb c 10) ([] ∷ lines_of s) (onto_first b (lines_of (c ∷ s)))

-- "fields, unquoted": a comma always ends a field. An empty line has one field, which is empty.
unfoldable pub fields_of : List ℕ → List (List ℕ)
fields_of [] = [] ∷ []
fields_of (b ∷ l) = cond (eqb b 44) ([] ∷ fields_of l) (onto_first b (fields_of l))

-- "decimal"
abbrev pub is_digit : ℕ → Bool
is_digit b = leb 48 b && leb b 57

-- the value of digits that follow a number n
unfoldable pub value_from : ℕ → List ℕ → ℕ
value_from n [] = n
value_from n (b ∷ f) = value_from (n * 10 + (b - 48)) f

abbrev pub value_of : List ℕ → ℕ
value_of f = value_from 0 f

-- "1 to 5 digits, at most 65,535"
unfoldable pub is_number : List ℕ → Bool
is_number f = leb 1 (length f) && (leb (length f) 5 && (all is_digit f && leb (value_of f) 65535))

-- the first four numbers of a list
abbrev pub four : List ℕ → Record
four l = numbers (get_or l 0 0) (get_or l 1 0) (get_or l 2 0) (get_or l 3 0)

-- "Each line is four decimal fields": what the fields of a line say; "any other line" is Malformed
unfoldable pub record_of_fields : List (List ℕ) → Record
record_of_fields fs = cond (eqb (length fs) 4 && all is_number fs) (four (map value_of fs)) malformed

unfoldable pub record_of : List ℕ → Record
record_of l = record_of_fields (fields_of l)

-- what the input says, a record for each line
unfoldable pub records_of : List ℕ → List Record
records_of s = map record_of (lines_of s)
