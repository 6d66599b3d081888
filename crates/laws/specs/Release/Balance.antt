-- What holds in the middle of a take-off, and from one point of it to a later one.
-- `held` lists the counted references that stand outside the queue: those of the roots and slots, and one whose take-off is due.
-- `serving` is the cell whose slots are coming off, if any; `done` are the cells that the call's take-offs have freed, oldest first.
-- Assumes nothing.
use Rattle.std.specs.Prelude.{ℕ, suc, ◌+◌, ◌*◌, ◌≤◌, ◌<◌, List, [], ◌++◌, map, ◌≡◌, length}
use Rattle.rules.specs.Lists.{occ}
use Rattle.rules.specs.Heap.{running, kind_of, flags_of, count_of, slot_of, entries}
use Rattle.rules.specs.Release.{Work}
use Rattle.laws.specs.Sound.But.{Fit, QueueOk, PlainSlots}

pub record Balanced (w : Work) (serving done held : List ℕ) : Type 0 where
  pub fit : Fit w.heap.kind w.heap.flags w.heap.count w.heap.queue w.heap.control
  pub queue : QueueOk w.heap.kind w.heap.flags w.heap.queue w.heap.control
  -- a free cell's count is 0, and every count is the number of references
  pub free : (c : ℕ) → kind_of w.heap c ≡ 0 → count_of w.heap c ≡ 0
  pub balance : (c : ℕ) → count_of w.heap c ≡ occ (suc c) (entries w.heap) + occ (suc c) held
  -- the cells that wait or are being served are the used ones with count 0
  pub waits : (c : ℕ) → 1 ≤ kind_of w.heap c → count_of w.heap c ≡ 0 → 1 ≤ occ c serving + occ c w.pending
  pub used : (c : ℕ) → 1 ≤ occ c serving + occ c w.pending → 1 ≤ kind_of w.heap c
  pub dead : (c : ℕ) → 1 ≤ occ c serving + occ c w.pending → count_of w.heap c ≡ 0
  -- the cells freed are free and within the tables
  pub gone : (c : ℕ) → 1 ≤ occ c done → kind_of w.heap c ≡ 0
  pub listed : (c : ℕ) → 1 ≤ occ c done → c < length w.heap.kind
  -- each cell joins the work list once
  pub distinct : (c : ℕ) → occ c done + (occ c serving + occ c w.pending) ≤ 1

-- Between two entries of the work list: what is held besides the slots is `outside` (the roots, and references that stay counted).
pub record Draining (w : Work) (done outside : List ℕ) : Type 0 where
  pub slots : length w.heap.slots ≡ 8 * length w.heap.kind
  pub plain_slots : PlainSlots w.heap.kind w.heap.slots
  pub balanced : Balanced w [] done (w.heap.slots ++ outside)

-- From w to v exactly `cells` are freed, `joined` join the queue, both in order, and everything else but counts and work list stays.
pub record Advance (w v : Work) (cells joined : List ℕ) : Type 0 where
  pub roots : v.heap.roots ≡ w.heap.roots
  pub running : running v.heap ≡ running w.heap
  pub size : length v.heap.kind ≡ length w.heap.kind
  pub kind : (c : ℕ) → occ c cells ≡ 0 → kind_of v.heap c ≡ kind_of w.heap c
  pub flags : (c : ℕ) → occ c cells ≡ 0 → flags_of v.heap c ≡ flags_of w.heap c
  pub slots : (c k : ℕ) → k < 8 → occ c cells ≡ 0 → slot_of v.heap c k ≡ slot_of w.heap c k
  -- a freed cell was used, and is all zeros
  pub used : (c : ℕ) → 1 ≤ occ c cells → 1 ≤ kind_of w.heap c
  pub no_kind : (c : ℕ) → 1 ≤ occ c cells → kind_of v.heap c ≡ 0
  pub no_flags : (c : ℕ) → 1 ≤ occ c cells → flags_of v.heap c ≡ 0
  pub no_slots : (c k : ℕ) → k < 8 → 1 ≤ occ c cells → slot_of v.heap c k ≡ 0
  pub once : (c : ℕ) → occ c cells ≤ 1
  pub freed : v.freed ≡ w.freed ++ cells
  pub entered : entries v.heap ≡ entries w.heap ++ map suc joined
  pub queued : v.queued ≡ w.queued ++ joined
