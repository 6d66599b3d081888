-- The object that a root holds, or why it holds none.
-- Assumes nothing: these are definitions.
use Rattle.std.specs.Prelude.{ℕ, suc, ◌-◌, ◌≤◌, ◌<◌, ◌⊎◌, ◌≢◌, ◌≡◌, length, Result, Ok, Err}
use Rattle.numbers.specs.declared.cell.Cell.{Cell}
use Rattle.rules.specs.declared.refusal.Refusal.{Refusal}
use Rattle.rules.specs.Refused.{number_of}
use Rattle.rules.specs.Heap.{Heap, cells, kind_of, root_at}

-- the root stands in its table, and what it holds is empty or one of the cells
pub record Holding (h : Heap) (o : ℕ) : Type 0 where
  pub range : o < length h.roots
  pub within : root_at h o ≤ cells h

-- the cell that the root holds is an object; or the root is empty (4 EMPTY), or holds another kind (5 KIND)
abbrev pub AsObject : Heap → ℕ → Result Cell Refusal → Type 0
AsObject h o (Ok c) = (root_at h o ≡ suc c.0) × (kind_of h c.0 ≡ 1) × (c.0 < cells h)
AsObject h o (Err why) =
    ((root_at h o ≡ 0) × (number_of why ≡ 4)) ⊎ ((root_at h o ≢ 0) × (kind_of h (root_at h o - 1) ≢ 1) × (number_of why ≡ 5))
