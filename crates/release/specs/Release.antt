-- What a full take-off asks for and leaves, as the code has the heap: the lent tables, the table for the freed cells, and numbers. It reads no roots.
-- Assumes nothing: these are definitions.
use Rattle.std.specs.Prelude.{ℕ, suc, ◌+◌, ◌≤◌, ◌<◌, List, ◌∷◌, ◌++◌, map, ◌≡◌, length, take, get_or}
use Rattle.rules.specs.Heap.{Heap, cells}
use Rattle.rules.specs.Release.{Work, start}
use Rattle.laws.specs.Release.Balance.{Draining}

-- a count that can rise by one: the reference is empty, or its cell is in the table and the count below the largest 16-bit number
pub record Raisable (count : List ℕ) (r : ℕ) : Type 0 where
  pub range : (c : ℕ) → r ≡ suc c → c < length count
  pub fits16 : (c : ℕ) → r ≡ suc c → get_or count c 0 < 65535

-- Every count is the number of references, where r is counted and stands nowhere; `outside` are those besides the slots and the queue.
-- The call has freed the cells `done` before, `from` of them.
pub record Releasable (h : Heap) (from r : ℕ) : Type 0 where
  pub outside : List ℕ
  pub done : List ℕ
  pub place : from ≡ length done
  pub draining : Draining (start h) done (r ∷ outside)

-- The tables are those of v. The references of the cells that v freed stand, in order, behind the first `from` entries of `before`: they are the
-- entries of `after` up to `end`. Nothing is said of the entries from `end` on.
pub record WorkListed (v : Work) (h : Heap) (before : List ℕ) (from : ℕ) (after : List ℕ) (end : ℕ) : Type 0 where
  pub heap : h ≡ v.heap
  pub listed : take end after ≡ take from before ++ map suc v.freed
  pub few : end ≤ cells h

-- the tables are those of v, and d cells were freed
pub record WorkCounted (v : Work) (h : Heap) (d : ℕ) : Type 0 where
  pub heap : h ≡ v.heap
  pub freed : d ≡ length v.freed

-- The same, where the table may have no room for the list: behind `from` cells there are those that v freed, up to `end`, and they are listed
-- if the table has room for every cell. Nothing is said of a table with less room.
pub record WorkDone (v : Work) (h : Heap) (before : List ℕ) (from : ℕ) (after : List ℕ) (end : ℕ) : Type 0 where
  pub heap : h ≡ v.heap
  pub many : end ≡ from + length v.freed
  pub few : end ≤ cells h
  pub listed : cells h ≤ length before → take end after ≡ take from before ++ map suc v.freed
