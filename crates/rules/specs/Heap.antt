-- Document 01, "What the box holds": the seven lent tables, how they are read, and how one entry is written; and the freeing step, with Q-3 of
-- document 02.
-- A table reads as 0 beyond its end, so that no cell number needs a bound.
-- Assumes nothing: these are definitions.
use Rattle.std.specs.Prelude.{ℕ, suc, ◌+◌, ◌*◌, ◌≤◌, List, Bool, ◌||◌, cond, ◌≡◌, eqb, length, get_or, take, drop, set, replicate}
use Rattle.std.proofs.lemmas.List.Edits.{sets}

-- kind: 0 free, 1 object, 2 string, 3 buffer; flags: 1 has a finalizer, 2 finalised, 3 both;
-- count: references to the cell; slots: cell c owns entries 8c to 8c+7; roots: the mutator's references;
-- queue: cells waiting for a finalizer, oldest first; control: queue length, running root
pub record Heap : Type 0 where
  pub kind : List ℕ
  pub flags : List ℕ
  pub count : List ℕ
  pub slots : List ℕ
  pub roots : List ℕ
  pub queue : List ℕ
  pub control : List ℕ

-- the heap that seven tables are
abbrev pub tables : List ℕ → List ℕ → List ℕ → List ℕ → List ℕ → List ℕ → List ℕ → Heap
tables k f n s r q w = record { kind = k; flags = f; count = n; slots = s; roots = r; queue = q; control = w }

-- "N is the number of cells, read as the length of the kind table"
abbrev pub cells : Heap → ℕ
cells h = length h.kind

abbrev pub queued : Heap → ℕ
queued h = get_or h.control 0 0

-- "0 for none, or the root's number plus 1"
abbrev pub running : Heap → ℕ
running h = get_or h.control 1 0

-- the entries of a cell, its slot j, a root, an entry of the queue
abbrev pub kind_of : Heap → ℕ → ℕ
kind_of h c = get_or h.kind c 0

abbrev pub flags_of : Heap → ℕ → ℕ
flags_of h c = get_or h.flags c 0

abbrev pub count_of : Heap → ℕ → ℕ
count_of h c = get_or h.count c 0

abbrev pub slot_of : Heap → ℕ → ℕ → ℕ
slot_of h c j = get_or h.slots (8 * c + j) 0

abbrev pub root_at : Heap → ℕ → ℕ
root_at h i = get_or h.roots i 0

abbrev pub queue_at : Heap → ℕ → ℕ
queue_at h i = get_or h.queue i 0

-- the eight slots that cell c owns, in a slots table
unfoldable pub slots_of : List ℕ → ℕ → List ℕ
slots_of slots c = take 8 (drop (8 * c) slots)

-- the queue's entries below its length
abbrev pub entries : Heap → List ℕ
entries h = take (queued h) h.queue

-- kind 0 is free; there is no used cell beyond the table
abbrev pub Used : Heap → ℕ → Type 0
Used h c = 1 ≤ kind_of h c

abbrev pub Free : Heap → ℕ → Type 0
Free h c = kind_of h c ≡ 0

-- "FRESH sets every entry to 0", of tables for n cells
unfoldable pub fresh : ℕ → Heap
fresh n = tables (replicate n 0) (replicate n 0) (replicate n 0) (replicate (8 * n) 0) (replicate 64 0) (replicate n 0) (replicate 2 0)

-- one entry written
unfoldable pub set_kind : Heap → ℕ → ℕ → Heap
set_kind h c v = tables (set h.kind c v) h.flags h.count h.slots h.roots h.queue h.control

unfoldable pub set_flags : Heap → ℕ → ℕ → Heap
set_flags h c v = tables h.kind (set h.flags c v) h.count h.slots h.roots h.queue h.control

unfoldable pub set_count : Heap → ℕ → ℕ → Heap
set_count h c v = tables h.kind h.flags (set h.count c v) h.slots h.roots h.queue h.control

unfoldable pub set_slot : Heap → ℕ → ℕ → Heap
set_slot h i v = tables h.kind h.flags h.count (set h.slots i v) h.roots h.queue h.control

unfoldable pub set_root : Heap → ℕ → ℕ → Heap
set_root h i v = tables h.kind h.flags h.count h.slots (set h.roots i v) h.queue h.control

unfoldable pub set_running : Heap → ℕ → Heap
set_running h r = tables h.kind h.flags h.count h.slots h.roots h.queue (set h.control 1 r)

-- another queue, and its length
unfoldable pub set_queue : Heap → List ℕ → ℕ → Heap
set_queue h q n = tables h.kind h.flags h.count h.slots h.roots q (set h.control 0 n)

-- cell c joins the end of the queue
unfoldable pub enqueue : Heap → ℕ → Heap
enqueue h c = set_queue h (set h.queue (queued h) (suc c)) (suc (queued h))

-- "2 string, 3 buffer"
unfoldable pub plain : ℕ → Bool
plain k = eqb k 2 || eqb k 3

-- slots with cell c's eight all 0
abbrev pub emptied : List ℕ → ℕ → List ℕ
emptied slots c = sets slots (8 * c) (replicate 8 0)

-- the slots after a cell of this kind was freed. Document 02, Q-3: "the freeing step should write no slot of a string or buffer: on any tables
-- they stay as they were"
abbrev pub wiped_slots : ℕ → List ℕ → ℕ → List ℕ
wiped_slots kind slots c = cond (plain kind) slots (emptied slots c)

-- the freeing step, "then the cell is all zeros": its slots by the kind that it has when the step begins
unfoldable pub wipe : Heap → ℕ → Heap
wipe h c = tables (set h.kind c 0) (set h.flags c 0) (set h.count c 0) (wiped_slots (kind_of h c) h.slots c) h.roots h.queue h.control
