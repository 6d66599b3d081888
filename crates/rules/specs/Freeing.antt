-- Document 02, Q-3, as a claim about the freeing step, on any tables and for any cell number.
-- Assumes nothing: these are definitions.
use Rattle.std.specs.Prelude.{ℕ, ◌*◌, List, ◌⊎◌, ◌≡◌, set, replicate}
use Rattle.std.proofs.lemmas.List.Edits.{sets}
use Rattle.rules.specs.Heap.{Heap, tables, kind_of, wipe}
use Rattle.rules.specs.Sound.{EmptySlots}

-- kind, flags and count of cell c are 0, and the slots are these
abbrev pub zeroed_with : Heap → ℕ → List ℕ → Heap
zeroed_with h c slots = tables (set h.kind c 0) (set h.flags c 0) (set h.count c 0) slots h.roots h.queue h.control

-- all that cell c owns is 0, whatever its kind was
abbrev pub zeroed : Heap → ℕ → Heap
zeroed h c = zeroed_with h c (sets h.slots (8 * c) (replicate 8 0))

abbrev pub StringOrBuffer : Heap → ℕ → Type 0
StringOrBuffer h c = (kind_of h c ≡ 2) ⊎ (kind_of h c ≡ 3)

pub record FreeingStep : Type 0 where
  -- "the freeing step should write no slot of a string or buffer: on any tables they stay as they were"
  pub spares : (h : Heap) (c : ℕ) → StringOrBuffer h c → wipe h c ≡ zeroed_with h c h.slots
  -- "Where they are zero, what the step promises stays as it is": all zeros, as for every other kind
  pub empties : (h : Heap) (c : ℕ) → (StringOrBuffer h c → EmptySlots h c) → wipe h c ≡ zeroed h c
