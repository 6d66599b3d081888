-- What a write of a reference asks for and leaves.
-- Assumes nothing: these are definitions.
use Rattle.std.specs.Prelude.{ℕ, suc, ◌≤◌, ◌<◌, List, [], map, ◌≡◌, length, take}
use Rattle.rules.specs.declared.Answer.{Answer}
use Rattle.rules.specs.Heap.{Heap, tables, kind_of, Used}
use Rattle.rules.specs.Release.{Work}
use Rattle.rules.specs.Calls.{answers}
use Rattle.laws.specs.Sound.But.{SoundBut}

-- a root's write: the heap is sound, the root's number is below 64, and r names a used cell or is empty
pub record Writable (h : Heap) (to r : ℕ) : Type 0 where
  pub sound : SoundBut h []
  pub small : to < 64
  pub used : (c : ℕ) → r ≡ suc c → Used h c

-- the heap with other roots
abbrev pub with_roots : Heap → List ℕ → Heap
with_roots h roots = tables h.kind h.flags h.count h.slots roots h.queue h.control

-- a slot's write: the same with some roots, which it doesn't read; the cell is an object and the slot's number below 8
pub record SlotWritable (h : Heap) (cell slot r : ℕ) : Type 0 where
  pub roots : List ℕ
  pub sound : SoundBut (with_roots h roots) []
  pub object : kind_of h cell ≡ 1
  pub small : slot < 8
  pub used : (c : ℕ) → r ≡ suc c → Used h c

-- The tables are those of v, and the answer is that of a call that is done: how many cells it freed and queued. The first entries of the table `list`,
-- which was `room`, are the references of the cells that v freed, in order, if it has room for all n cells; nothing is said of its other entries.
pub record WorkFinished (n : ℕ) (v : Work) (h : Heap) (room list : List ℕ) (a : Answer) : Type 0 where
  pub heap : h ≡ v.heap
  pub listed : n ≤ length room → take (length v.freed) list ≡ map suc v.freed
  pub answered : a ≡ answers 0 (length v.freed) (length v.queued) 0
