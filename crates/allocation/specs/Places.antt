-- A new cell's entries, as NEW's code writes them.
-- Assumes nothing: these are definitions.
use Rattle.std.specs.Prelude.{ℕ, suc, ◌≤◌, ◌<◌, ◌≡◌, length, set, Result, Ok, Err}
use Rattle.rules.specs.declared.refusal.Refusal.{Refusal}
use Rattle.rules.specs.Heap.{Heap, cells, tables}
use Rattle.rules.specs.Refused.{number_of}
use Rattle.rules.specs.Refusals.{lowest_free, refusal_sound}
use Rattle.rules.specs.Refusals.Call.{NEW}
use Rattle.allocation.specs.declared.placing.Choice.{Choice}
use Rattle.allocation.specs.declared.shape.Shape.{Shape}

-- cell c and root `to` stand in their tables
pub record Placeable (h : Heap) (c to : ℕ) : Type 0 where
  pub small : cells h ≤ 1024
  pub kind_room : c < length h.kind
  pub flags_room : c < length h.flags
  pub count_room : c < length h.count
  pub roots_room : to < length h.roots

-- cell c has its shape's kind and flags and count 1, and root `to` holds it; nothing else is written
abbrev pub Placed : Heap → ℕ → ℕ → Shape → Heap → Type 0
Placed h c to shape k =
    k ≡ tables (set h.kind c shape.kind) (set h.flags c shape.flags) (set h.count c 1) h.slots (set h.roots to (suc c)) h.queue h.control

-- NEW goes through, and this is its cell, its root and its shape
pub record Goes (h : Heap) (r k f : ℕ) (to : Choice) : Type 0 where
  pub goes : refusal_sound h (NEW r k f) ≡ 0
  pub lowest : to.cell.0 ≡ lowest_free h.kind
  pub in_use : to.cell.0 < cells h
  pub root : to.to.0 ≡ r
  pub is_root : to.to.0 < 64
  pub shape : (to.shape.kind ≡ k) × (to.shape.flags ≡ f)

-- what NEW decides: why it is refused, or what it places
abbrev pub Chosen : Heap → ℕ → ℕ → ℕ → Result Choice Refusal → Type 0
Chosen h r k f (Err why) = refusal_sound h (NEW r k f) ≡ number_of why
Chosen h r k f (Ok to) = Goes h r k f to
