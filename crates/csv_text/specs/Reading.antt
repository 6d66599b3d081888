-- Document 02, Q-1: "take whatever bytes have come, hold back the unfinished line, and give out each finished one". What a byte, and the end of the input,
-- make of a reader. Of the unfinished line it holds seven numbers: whether a CR is held back, the fields that are finished, the digits of the next one, and the
-- last four values, d the latest.
-- Assumes nothing: these are definitions.
use Rattle.std.specs.Prelude.{ℕ, ◌+◌, ◌*◌, ◌-◌, ◌<◌, ◌≡◌, List, [], ◌∷◌, ◌++◌, ◌&&◌, ◌||◌, cond, ◌⊎◌, eqb, leb, ltb, length, Option, Some, None}
use Rattle.csv_text.specs.Lines.{Record, numbers, malformed, is_digit, record_of, records_of}
use Rattle.csv_text.specs.declared.reader.Reader.{Reader}

-- what a byte gives: the reader to go on with, and what the line says that the byte ends, if it ends one
abbrev pub Step : Type 0
Step = Reader × Option Record

-- nothing is held
abbrev pub reader_start : Reader
reader_start = record { cr = 0; field = 0; digits = 0; a = 0; b = 0; c = 0; d = 0 }

-- a line that no further byte can mend "is skipped to its CR LF without being stored": four fields are finished, and the next has five digits, so it takes up neither a comma nor a digit
abbrev pub skipping : Reader
skipping = record { cr = 0; field = 4; digits = 5; a = 0; b = 0; c = 0; d = 0 }

-- a comma ends a field: at most the third, and none that is empty
unfoldable pub comma : Reader → Reader
comma s =
    cond (leb 3 s.field || eqb s.digits 0) skipping
    (record { cr = 0; field = s.field + 1; digits = 0; a = s.b; b = s.c; c = s.d; d = 0 })

-- a digit: at most the fifth of its field, with a value of at most 65,535
unfoldable pub digit : Reader → ℕ → Reader
digit s byte =
    cond (leb 5 s.digits || ltb 65535 (s.d * 10 + (byte - 48))) skipping
    (record { cr = 0; field = s.field; digits = s.digits + 1; a = s.a; b = s.b; c = s.c; d = s.d * 10 + (byte - 48) })

-- a byte of a line
unfoldable pub in_line : Reader → ℕ → Reader
in_line s byte = cond (eqb byte 44) (comma s) (cond (is_digit byte) (digit s byte) skipping)

-- a CR is held back until the next byte is known
abbrev pub with_cr : Reader → Reader
with_cr s = record { cr = 1; field = s.field; digits = s.digits; a = s.a; b = s.b; c = s.c; d = s.d }

-- a byte with no CR before it
unfoldable pub plain : Reader → ℕ → Reader
plain s byte = cond (eqb byte 13) (with_cr s) (in_line s byte)

-- what the line says if it ends here
unfoldable pub record_so_far : Reader → Record
record_so_far s = cond (eqb s.field 3 && leb 1 s.digits) (numbers s.a s.b s.c s.d) malformed

-- the next byte: LF after a CR ends the line; any other byte makes the CR a lone one
unfoldable pub fed : Reader → ℕ → Step
fed s byte = cond (eqb s.cr 0) (plain s byte, None) (cond (eqb byte 10) (reader_start, Some (record_so_far s)) (plain skipping byte, None))

-- "Ending the input closes an unfinished line"; a CR at its end is a lone one
unfoldable pub closed : Reader → Option Record
closed s = cond (eqb s.cr 0) (cond (eqb s.field 0 && eqb s.digits 0) None (Some (record_so_far s))) (Some malformed)

-- ---- a whole input

-- the record of the line that ended, if one did
unfoldable pub ended : Option Record → List Record
ended None = []
ended (Some r) = r ∷ []

-- the records of the lines that end from here on, where `after` are those of the rest, by the reader that it begins with
abbrev pub given : Step → (Reader → List Record) → List Record
given step after = ended step.1 ++ after step.0

-- the records that a reader gives out for the rest of an input, and at its end
unfoldable pub records : List ℕ → Reader → List Record
records [] s = ended (closed s)
records (b ∷ rest) s = given (fed s b) (records rest)

-- the claim: from the start these are the records of the input's lines
abbrev pub ReadsAll : Type 0
ReadsAll = (input : List ℕ) → records input reader_start ≡ records_of input

-- ---- long lines

-- "A line over 64 bytes is LINE"
abbrev pub LongLine : Type 0
LongLine = (l : List ℕ) → 64 < length l → record_of l ≡ malformed

-- these bytes lead from one reader to another, and end no line
pub data WithinLine : Reader → List ℕ → Reader → Type 0 where
  none : {s : Reader} → WithinLine s [] s
  byte : {s t : Reader} (b : ℕ) {rest : List ℕ} (next : Reader) → fed s b ≡ (next, None) → WithinLine next rest t → WithinLine s (b ∷ rest) t

-- "is skipped to its CR LF without being stored": whatever the first bytes of a line were, with more than 64 of them the reader knows no more than that it is skipping
abbrev pub Skipped : Type 0
Skipped = (l : List ℕ) (t : Reader) → WithinLine reader_start l t → 64 < length l → (t ≡ skipping) ⊎ (t ≡ with_cr skipping)
