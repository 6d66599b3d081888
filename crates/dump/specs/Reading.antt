-- Heaps read a byte at a time: what a byte, and the end of the input, make of a reader, and which heaps it gives. Beside the reader
-- stand the tables of the heap so far.
-- Assumes nothing: these are definitions.
use Rattle.std.specs.Prelude.{ℕ, ◌+◌, ◌*◌, ◌-◌, List, [], ◌∷◌, ◌++◌, true, false, ◌||◌, not, cond, eqb, leb, ltb, get_or}
use Rattle.csv_text.specs.Lines.{is_digit}
use Rattle.rules.specs.Heap.{Heap, tables}
use Rattle.dump.specs.Dumps.{unfit}
use Rattle.dump.specs.declared.reader.Reader.{Reader}

-- the reader, the finished tables of its heap, and the finished entries of the unfinished line
pub record State : Type 0 where
  pub reader : Reader
  pub finished : List (List ℕ)
  pub row : List ℕ

abbrev pub reader_start : Reader
reader_start = record { tables = 0; end = 0; digits = 0; value = 0; begun = false; cr = false; spoilt = false }

abbrev pub start_state : State
start_state = record { reader = reader_start; finished = []; row = [] }

-- another reader, on the same tables
abbrev pub with : State → Reader → State
with s r = record { reader = r; finished = s.finished; row = s.row }

-- the heap can fit no N: from here to its end its lines are counted, and no more
abbrev pub spoil : Reader → Reader
spoil r = record { tables = r.tables; end = r.end; digits = r.digits; value = r.value; begun = true; cr = false; spoilt = true }

abbrev pub spoiled : State → State
spoiled s = with s (spoil s.reader)

-- ---- a byte of a line

-- a digit: at most the fifth of its field, with a value of at most 65,535
unfoldable pub digit : Reader → ℕ → Reader
digit r byte =
    cond (leb 5 r.digits || ltb 65535 (r.value * 10 + (byte - 48))) (spoil r)
    (record {
      tables = r.tables;
      end = r.end;
      digits = r.digits + 1;
      value = r.value * 10 + (byte - 48);
      begun = true;
      cr = r.cr;
      spoilt = r.spoilt;
    })

-- one entry more; the next field of the line begins
abbrev pub next_field : Reader → Reader
next_field r = record { tables = r.tables; end = r.end + 1; digits = 0; value = 0; begun = true; cr = r.cr; spoilt = r.spoilt }

-- a field ends: it has a digit, and its entry has room among those of the largest heap
unfoldable pub entered : State → State
entered s =
    cond (eqb s.reader.digits 0 || leb 12354 s.reader.end) (spoiled s)
    (record { reader = next_field s.reader; finished = s.finished; row = s.row ++ (s.reader.value ∷ []) })

-- a byte of a line: a comma ends a field
unfoldable pub in_line : State → ℕ → State
in_line s byte =
    cond s.reader.spoilt (spoiled s)
    (cond (eqb byte 44) (entered s) (cond (is_digit byte) (with s (digit s.reader byte)) (spoiled s)))

-- a CR is held back until the next byte is known
abbrev pub with_cr : Reader → Reader
with_cr r = record { tables = r.tables; end = r.end; digits = r.digits; value = r.value; begun = r.begun; cr = true; spoilt = r.spoilt }

-- a byte with no CR before it
unfoldable pub plain : State → ℕ → State
plain s byte = cond (eqb byte 13) (with s (with_cr s.reader)) (in_line s byte)

-- ---- the end of a line

-- its last field ends; an empty line has none
unfoldable pub last_field : State → State
last_field s = cond (s.reader.spoilt || not s.reader.begun) s (entered s)

-- one line more; the next begins
abbrev pub line_after : Reader → Reader
line_after r = record { tables = r.tables + 1; end = r.end; digits = 0; value = 0; begun = false; cr = false; spoilt = r.spoilt }

abbrev pub next_line : State → State
next_line s = record { reader = line_after s.reader; finished = s.finished ++ (s.row ∷ []); row = [] }

unfoldable pub line_end : State → State
line_end s = next_line (last_field s)

-- ---- any byte, and the end of the input

-- the next byte: LF after a CR ends the line; any other byte makes the CR a lone one
unfoldable pub fed : State → ℕ → State
fed s byte = cond s.reader.cr (cond (eqb byte 10) (line_end s) (plain (spoiled s) byte)) (plain s byte)

-- an unfinished line ends; a CR at its end is a lone one
unfoldable pub last_line : State → State
last_line s = cond s.reader.cr (line_end (spoiled s)) (cond s.reader.begun (line_end s) s)

-- all seven lines, of a heap that lacks some
abbrev pub cut_short : Reader → Reader
cut_short r = record { tables = 7; end = r.end; digits = r.digits; value = r.value; begun = r.begun; cr = r.cr; spoilt = true }

-- lines that are missing fit no N; a heap with no line is none
unfoldable pub whole : State → State
whole s = cond (eqb s.reader.tables 0 || eqb s.reader.tables 7) s (with s (cut_short s.reader))

unfoldable pub closed : State → State
closed s = whole (last_line s)

-- ---- the heaps that are given

-- table i; of a heap that can fit no N every table is given as empty, which fits no N either
unfoldable pub table_given : State → ℕ → List ℕ
table_given s i = cond s.reader.spoilt [] (get_or s.finished i unfit)

abbrev pub heap_given : State → Heap
heap_given s = tables (table_given s 0) (table_given s 1) (table_given s 2) (table_given s 3) (table_given s 4) (table_given s 5) (table_given s 6)

-- the heap that is complete, if one is; after it the next begins
unfoldable pub out : State → List Heap
out s = cond (eqb s.reader.tables 7) (heap_given s ∷ []) []

unfoldable pub next : State → State
next s = cond (eqb s.reader.tables 7) start_state s

-- some bytes of an input: the heaps that they complete, and the state that they leave
unfoldable pub within : State → List ℕ → List Heap
within s [] = []
within s (b ∷ rest) = out (fed s b) ++ within (next (fed s b)) rest

unfoldable pub after : State → List ℕ → State
after s [] = s
after s (b ∷ rest) = after (next (fed s b)) rest

-- the heaps that a state gives for the rest of an input, and at its end
unfoldable pub given : State → List ℕ → List Heap
given s rest = within s rest ++ out (closed (after s rest))
