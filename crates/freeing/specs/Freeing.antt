-- What the freeing step asks for, as the code has it: the four tables in which a cell has entries.
-- Assumes nothing: these are definitions.
use Rattle.std.specs.Prelude.{ℕ, ◌+◌, ◌*◌, ◌≤◌, ◌<◌, length}
use Rattle.rules.specs.Heap.{Heap}

-- cell c stands in the tables
pub record CellInTables (h : Heap) (c : ℕ) : Type 0 where
  pub kind : c < length h.kind
  pub flags : c < length h.flags
  pub count : c < length h.count
  pub slots : 8 * c + 8 ≤ length h.slots
