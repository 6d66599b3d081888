-- Document 02, Q-1: what is taken of the bytes that have come, what is written for them, and what is held. The room for answers is the caller's: a byte is
-- taken only while the answer that it may call for has room.
-- Assumes nothing: these are definitions.
use Rattle.std.specs.Prelude.{ℕ, ◌+◌, ◌≤◌, ◌≡◌, List, [], ◌∷◌, ◌++◌, cond, leb, length, drop, Option, Some, None}
use Rattle.csv_text.specs.Lines.{Record}
use Rattle.csv_text.specs.Reading.{Step, reader_start, fed, closed}
use Rattle.csv_text.specs.Written.{Wrote}
use Rattle.csv_text.specs.declared.reader.Reader.{Reader}
use Rattle.rules.specs.Heap.{Heap}
use Rattle.session.specs.declared.taking.Progress.{Progress}
use Rattle.session.specs.Session.{line_for, after_line}

-- ---- one byte, by the line that it ends, if it ends one: "hold back the unfinished line, and give out each finished one"

unfoldable pub heap_after : Heap → Option Record → Heap
heap_after h None = h
heap_after h (Some l) = after_line h l

unfoldable pub text_for : Heap → Option Record → List ℕ
text_for h None = []
text_for h (Some l) = line_for h l

-- ---- the bytes that have come

-- the tables, the reader, how many of the bytes are taken, and the answers to the lines that have ended
pub record State : Type 0 where
  pub heap : Heap
  pub reader : Reader
  pub taken : ℕ
  pub text : List ℕ

-- before the first of them
abbrev pub begun : Heap → Reader → State
begun h s = record { heap = h; reader = s; taken = 0; text = [] }

-- a byte more, by what it gives
unfoldable pub advance : State → Step → State
advance x s = record { heap = heap_after x.heap s.1; reader = s.0; taken = x.taken + 1; text = x.text ++ text_for x.heap s.1 }

-- bytes are taken while an answer, which has at most 31 bytes, has room behind those that are written
unfoldable pub takes : ℕ → State → List ℕ → State
takes room x [] = x
takes room x (b ∷ rest) = cond (leb (length x.text + 31) room) (takes room (advance x (fed x.reader b)) rest) x

-- ---- the end: "Ending the input closes an unfinished line; nothing is held after that"

-- by what the end gives; without room for an answer nothing is done, and the reader stays
unfoldable pub ends : ℕ → Heap → Reader → Option Record → State
ends room h s None = begun h reader_start
ends room h s (Some l) = cond (leb 31 room) (record { heap = after_line h l; reader = reader_start; taken = 0; text = line_for h l }) (begun h s)

-- ---- what a function gives: tables and progress are those of x; its text is at the front of the room, and every byte behind it is as before

pub record Gave (x : State) (before : List ℕ) (k : Heap) (after : List ℕ) (r : Progress) : Type 0 where
  pub heap : k ≡ x.heap
  pub progress : r ≡ record { reader = x.reader; taken = x.taken; written = length x.text }
  pub out : after ≡ x.text ++ drop (length x.text) before

-- these bytes had come, with this room
abbrev pub BytesTaken : Reader → Heap → List ℕ → List ℕ → Heap → List ℕ → Progress → Type 0
BytesTaken s h bytes before k after r = Gave (takes (length before) (begun h s) bytes) before k after r

-- the input had ended
abbrev pub InputEnded : Reader → Heap → List ℕ → Heap → List ℕ → Progress → Type 0
InputEnded s h before k after r = Gave (ends (length before) h s (closed s)) before k after r

-- a byte was taken, the last of `taken`, and what it gives was written at `at`
pub record ByteTaken (s : Step) (taken : ℕ) (before : List ℕ) (at : ℕ) (h k : Heap) (after : List ℕ) (r : Progress) : Type 0 where
  pub heap : k ≡ heap_after h s.1
  pub reader : r.reader ≡ s.0
  pub count : r.taken ≡ taken
  pub wrote : Wrote before at (text_for h s.1) after r.written
  pub room : r.written ≤ at + 31
