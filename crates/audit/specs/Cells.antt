-- The cells of a heap whose tables fit, by the tables that the audit reads: N is the length of the table of counts.
-- Assumes nothing: these are definitions.
use Rattle.std.specs.Prelude.{ℕ, ◌+◌, ◌*◌, ◌≤◌, ◌<◌, ◌≡◌, cond, List, ltb, ℤ, pos, ◌+ℤ◌, ◌-ℤ◌, length, get_or}
use Rattle.rules.specs.Lists.{dangling}
use Rattle.rules.specs.Heap.{Heap, count_of}
use Rattle.rules.specs.declared.audit.Row.{Row}
use Rattle.rules.specs.Audit.{references, difference, plus, lost_row, listed, row_to}
use Rattle.audit.specs.declared.cells.Sides.{Sides}

-- the difference of cell c, where entry c of `counted` has the references to it
abbrev pub minus : List ℕ → List ℕ → ℕ → ℤ
minus count counted c = pos (get_or count c 0) -ℤ pos (get_or counted c 0)

-- 1 where a is the lower of two numbers
abbrev pub lower : ℕ → ℕ → ℕ
lower a b = cond (ltb a b) 1 0

-- the columns of a row that the loop over cells adds up
abbrev pub sides_of : Row → Sides
sides_of r = record { below = r.below; above = r.above; sum = r.sum }

abbrev pub sides_plus : Sides → Row → Sides
sides_plus s r = record { below = s.below + r.below; above = s.above + r.above; sum = s.sum +ℤ r.sum }

-- `after` has the cells' differences, r is the heap's row; the counts are 16-bit numbers
pub record CellsAudited (h : Heap) (after : List ℤ) (r : Row) : Type 0 where
  pub table : after ≡ listed (difference h) (length h.count)
  pub row : r ≡ plus (row_to (difference h) (length h.count)) (lost_row (dangling (length h.count) (references h)))
  pub sixteen : (c : ℕ) → count_of h c < 65536

-- the lengths of tables that fit, as far as the audit reads them
pub record Lengths (differences : List ℤ) (h : Heap) : Type 0 where
  pub most : length h.count ≤ 1024
  pub room : length differences ≡ length h.count
  pub slots_size : length h.slots ≡ 8 * length h.count
  pub roots_size : length h.roots ≡ 64
  pub queue_size : length h.queue ≡ length h.count
