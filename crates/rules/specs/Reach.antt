-- What roots and queue reach, and rings: by chains of references of any length, and not by what marking does.
-- Assumes nothing: these are definitions.
use Rattle.std.specs.Prelude.{ℕ, suc, ◌+◌, ◌*◌, ◌<◌, List, ◌≡◌, ◌↔◌, get_or}
use Rattle.rules.specs.Heap.{Heap, entries, Used}

-- entry i of a table is a reference to cell c
abbrev pub Holds : List ℕ → ℕ → ℕ → Type 0
Holds table i c = get_or table i 0 ≡ suc c

-- one of the eight slots that cell p owns is a reference to cell c
pub record Link (slots : List ℕ) (p c : ℕ) : Type 0 where
  pub slot : ℕ
  pub in_cell : slot < 8
  pub holds : Holds slots (8 * p + slot) c

-- "Roots and queue reach a cell if a chain of references, of any length, leads to it:
-- the first is a root or a queue entry, each further one a slot of the cell before."
pub data Chain (roots queue slots : List ℕ) : ℕ → Type 0 where
  root : (i : ℕ) {c : ℕ} → Holds roots i c → Chain roots queue slots c
  entry : (i : ℕ) {c : ℕ} → Holds queue i c → Chain roots queue slots c
  further : {p c : ℕ} → Chain roots queue slots p → Link slots p c → Chain roots queue slots c

abbrev pub Reached : Heap → ℕ → Type 0
Reached h c = Chain h.roots (entries h) h.slots c

-- "the used cells are just those that roots and queue reach"
abbrev pub Exact : Heap → Type 0
Exact h = (c : ℕ) → Used h c ↔ Reached h c

-- a used cell that roots and queue don't reach
pub record Loose (h : Heap) (c : ℕ) : Type 0 where
  pub used : Used h c
  pub unreached : ¬ Reached h c

-- a chain of one or more slot references, through loose cells only, both ends included
pub data LooseChain (h : Heap) : ℕ → ℕ → Type 0 where
  one : {a b : ℕ} → Loose h a → Link h.slots a b → Loose h b → LooseChain h a b
  more : {a b c : ℕ} → Loose h a → Link h.slots a b → LooseChain h b c → LooseChain h a c

-- "Cells stand in a ring if a chain of one or more slot references leads from one of them, through the others if there are any, back to it":
-- a loose ring is one of loose cells
pub record LooseRing (h : Heap) : Type 0 where
  pub cell : ℕ
  pub around : LooseChain h cell cell
