-- Document 01, "The program": what it writes for an input.
-- Assumes nothing: these are definitions.
use Rattle.std.specs.Prelude.{ℕ, ◌≡◌, List, [], ◌∷◌, ◌++◌}
use Rattle.csv_text.specs.Lines.{records_of}
use Rattle.csv_text.specs.Reading.{reader_start}
use Rattle.rules.specs.Heap.{Heap, fresh}
use Rattle.session.specs.Session.{session}
use Rattle.session.specs.Deliveries.{Delivered}

-- "It runs one heap of 256 cells, fresh at the start"
abbrev pub at_start : Heap
at_start = fresh 256

-- op,refused,freed,queued,cell CR LF
abbrev pub header : List ℕ
header = 111 ∷ 112 ∷ 44 ∷ 114 ∷ 101 ∷ 102 ∷ 117 ∷ 115 ∷ 101 ∷ 100 ∷ 44 ∷ 102 ∷ 114 ∷ 101 ∷ 101 ∷ 100 ∷ 44 ∷ 113 ∷ 117 ∷ 101 ∷ 117 ∷ 101 ∷ 100 ∷ 44 ∷ 99 ∷ 101 ∷ 108 ∷ 108 ∷ 13 ∷ 10 ∷ []

-- what the program writes for an input
unfoldable pub output : List ℕ → List ℕ
output input = header ++ session at_start (records_of input)

-- the claim about deliveries, of the program: what it writes, however its input was cut
abbrev pub WritesOutput : Type 0
WritesOutput = (input w : List ℕ) (m : Heap) → Delivered reader_start at_start input w m → header ++ w ≡ output input
