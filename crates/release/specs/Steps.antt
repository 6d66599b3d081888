-- What the steps of a take-off ask for and leave. The work list stands in the table for the freed cells, as references: the cells that its entries
-- before `tail` name have joined it.
-- Assumes nothing: these are definitions.
use Rattle.std.specs.Prelude.{ℕ, suc, ◌+◌, ◌*◌, ◌-◌, ◌≤◌, ◌<◌, List, [], ◌∷◌, ◌++◌, map, Bool, true, false, ◌≡◌, length, take, get_or}
use Rattle.rules.specs.Heap.{Heap, tables, cells, count_of, slots_of}
use Rattle.rules.specs.Release.{Work, decref}
use Rattle.laws.specs.Sound.But.{PlainSlots}
use Rattle.laws.specs.Release.Balance.{Balanced, Draining}

-- the tables with a work list, and nothing freed or queued yet
abbrev pub working : Heap → (pending : List ℕ) → Work
working h pending = record { heap = h; pending = pending; freed = []; queued = [] }

-- counts and queue may change, and nothing else does
abbrev pub OthersStay : Heap → Heap → Type 0
OthersStay h g = (g.kind ≡ h.kind) × (g.flags ≡ h.flags) × (g.slots ≡ h.slots) × (g.roots ≡ h.roots)

-- r is empty, or names a cell of the table
pub record Named (count : List ℕ) (r : ℕ) : Type 0 where
  pub range : (c : ℕ) → r ≡ suc c → c < length count

-- Either r came off, and the rules' step leaves these counts and nothing else; or r is the last reference to its cell, and nothing came off.
pub record SharedOff (n : List ℕ) (r : ℕ) (n' : List ℕ) (off : Bool) : Type 0 where
  pub shared : off ≡ true → (k f s ro q t : List ℕ) → decref (working (tables k f n s ro q t) []) r ≡ working (tables k f n' s ro q t) []
  pub kept : off ≡ false → n' ≡ n
  pub some : off ≡ false → 1 ≤ r
  pub last : off ≡ false → get_or n (r - 1) 0 ≤ 1

-- The references `due` are to come off. Of the work list's cells `done` are freed, `serving` is being served and `pending` wait.
pub record ToComeOff (h : Heap) (freed : List ℕ) (tail : ℕ) (due : List ℕ) : Type 0 where
  pub serving : List ℕ
  pub done : List ℕ
  pub pending : List ℕ
  pub held : List ℕ
  pub room : cells h ≤ length freed
  pub listed : tail ≡ length done + length (serving ++ pending)
  pub balanced : Balanced (working h pending) serving done (due ++ held)

-- the same for the slots of cell c, where those of strings and buffers are empty
pub record SlotsToComeOff (h : Heap) (freed : List ℕ) (tail c : ℕ) : Type 0 where
  pub stands : c < cells h
  pub inside : 8 * c + 8 ≤ length h.slots
  pub plain_slots : PlainSlots h.kind h.slots
  pub due : ToComeOff h freed tail (slots_of h.slots c)

-- the same for r alone, which is the last reference to its cell
pub record LastToComeOff (h : Heap) (freed : List ℕ) (tail r : ℕ) : Type 0 where
  pub due : ToComeOff h freed tail (r ∷ [])
  pub some : 1 ≤ r
  pub last : count_of h (r - 1) ≡ 1

-- The tables are those of v, and the work list's new entries name the cells that joined it: the list had `tail` entries of `before`, and has `next` of `after`.
pub record CameOff (v : Work) (h : Heap) (before : List ℕ) (tail : ℕ) (after : List ℕ) (next : ℕ) : Type 0 where
  pub heap : h ≡ v.heap
  pub listed : take next after ≡ take tail before ++ map suc v.pending
  pub bound : next ≤ length before

-- The entries from `from` to `tail` name the cells that wait, and everything else is in balance; those before `from` are for the cells `done`,
-- which the call has freed before.
pub record Drainable (h : Heap) (freed : List ℕ) (from tail : ℕ) : Type 0 where
  pub outside : List ℕ
  pub done : List ℕ
  pub pending : List ℕ
  pub room : cells h ≤ length freed
  pub place : from ≡ length done
  pub bound : tail ≤ length freed
  pub listed : take tail freed ≡ take from freed ++ map suc pending
  pub draining : Draining (working h pending) done outside
