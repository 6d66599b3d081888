-- What was written for what was read, where reader and writer say which bytes they have left and hold. Of standard input and output they say nothing.
-- Assumes nothing: these are definitions.
use Rattle.std.specs.Prelude.{ℕ, ◌≤◌, List, [], ◌++◌, length, Option, Some, None}
use Rattle.std.specs.Io.KnownBytes.{Appends, Consumes, IsAtEnd}
use Rattle.csv_text.specs.declared.reader.Reader.{Reader}
use Rattle.rules.specs.Heap.{Heap}
use Rattle.session.specs.Deliveries.{Took, Delivered}

-- these bytes were taken and answered: whatever is handed in behind them, what is written for all of it is this text, and then what is written for the rest
pub record Told (s : Reader) (h : Heap) (bytes : List ℕ) (t : Reader) (k : Heap) (old new : Option (List ℕ)) : Type 0 where
  pub took : Took s h bytes t k
  pub text : List ℕ
  pub further : (rest w : List ℕ) (m : Heap) → Delivered t k rest w m → Delivered s h (bytes ++ rest) (text ++ w) m
  pub written : Appends old new text

-- the input had ended: this text was all that was left to write
pub record ToldLast (s : Reader) (h k : Heap) (old new : Option (List ℕ)) : Type 0 where
  pub text : List ℕ
  pub last : Delivered s h [] text k
  pub written : Appends old new text

-- of a read: it took some bytes, one at least
-- (the auditor says the like of its own `Told`)
pub record ReadTold (s : Reader) (h : Heap) (t : Reader) (k : Heap) (from to old new : Option (List ℕ)) : Type 0 where
  pub bytes : List ℕ
  pub some : 1 ≤ length bytes
  pub read : Consumes from to bytes
  pub told : Told s h bytes t k old new

-- or it found that the input had ended
pub record EndTold (s : Reader) (h k : Heap) (from old new : Option (List ℕ)) : Type 0 where
  pub read : IsAtEnd from
  pub told : ToldLast s h k old new

abbrev pub ServedTold : Reader → Heap → Heap → Option (List ℕ) → Option (List ℕ) → Option (List ℕ) → Option (List ℕ) → Option Reader → Type 0
ServedTold s h k from to old new (Some t) = ReadTold s h t k from to old new
ServedTold s h k from to old new None = EndTold s h k from old new
