-- Document 01, "The eight calls", with FRESH: what each does and answers, on any tables and with any numbers; and with Q-5 of document 02, which cells it freed.
-- Assumes nothing: these are definitions.
use Rattle.std.specs.Prelude.{ℕ, zero, suc, ◌+◌, ◌*◌, ◌-◌, List, [], ◌∷◌, ◌++◌, map, ◌≡◌, length, drop, replicate}
use Rattle.rules.specs.declared.Answer.{Answer}
use Rattle.rules.specs.Heap.{Heap, cells, queued, running, slot_of, root_at, queue_at, fresh, set_kind, set_flags, set_count, set_slot, set_root, set_running, set_queue}
use Rattle.rules.specs.Release.{Work, start, incref, release}
use Rattle.rules.specs.Collect.{collect}
use Rattle.rules.specs.Refusals.{Call, lowest_free, refusal, refusal_lent}
use Rattle.rules.specs.Refusals.Call.{FRESH, NEW, CLEAR, COPY, LOAD, STORE, COLLECT, START, FINISH}

-- what a call leaves, the cells that it freed, in order, and what it answers
pub record Result : Type 0 where
  pub heap : Heap
  pub freed : List ℕ
  pub answer : Answer

abbrev pub answers : ℕ → ℕ → ℕ → ℕ → Answer
answers r f q c = record { refused = r; freed = f; queued = q; cell = c }

-- "A refusal changes no table entry and answers freed 0, queued 0, cell 0."
unfoldable pub refuse : Heap → ℕ → Result
refuse h r = record { heap = h; freed = []; answer = answers r 0 0 0 }

-- a call done that frees and queues nothing; the cell is NEW's
unfoldable pub done : Heap → ℕ → Result
done h c = record { heap = h; freed = []; answer = answers 0 0 0 c }

-- "freed (cells used before and free after); queued (cells put in the queue by this call)"
unfoldable pub finished : Work → Result
finished w = record { heap = w.heap; freed = w.freed; answer = answers 0 (length w.freed) (length w.queued) 0 }

-- "NEW root, kind, finalizer: the lowest free cell, count 1, placed in the root": cell c
unfoldable pub allocate : Heap → ℕ → ℕ → ℕ → ℕ → Heap
allocate h r k f c = set_root (set_count (set_flags (set_kind h c k) c f) c 1) r (suc c)

-- "Writes (2 to 5): raise the new target's count, write, then take one off the old target."
unfoldable pub write_root : Heap → ℕ → ℕ → Work
write_root h to r = release (start (set_root (incref h r) to r)) (root_at h to)

-- slot s of cell c
unfoldable pub write_slot : Heap → ℕ → ℕ → ℕ → Work
write_slot h c s r = release (start (set_slot (incref h r) (8 * c + s) r)) (slot_of h c s)

-- the cell that a root holds, where it is not empty
abbrev pub held : Heap → ℕ → ℕ
held h r = root_at h r - 1

-- "START root: the head of the queue is placed in the root, its count rises by 1, the root becomes the running root. The queue stays."
unfoldable pub start_run : Heap → ℕ → Heap
start_run h r = set_running (set_root (incref h (queue_at h 0)) r (queue_at h 0)) (suc r)

-- "FINISH: the head leaves the queue and gets the finalised flag; the running root becomes none; that root is emptied, whatever it holds by now"
unfoldable pub leave_queue : Heap → Heap
leave_queue h =
    set_root (set_running (set_flags (set_queue h (drop 1 h.queue ++ (0 ∷ [])) (queued h - 1)) (queue_at h 0 - 1) 3) 0) (running h - 1) 0

-- "with a full take-off; then the bump is taken off the cell with another"
unfoldable pub finish_run : Heap → Work
finish_run h = release (release (start (leave_queue h)) (root_at h (running h - 1))) (queue_at h 0)

-- what a call that isn't refused does
unfoldable pub act : Heap → Call → Result
act h FRESH = done (fresh (cells h)) 0
act h (NEW r k f) = done (allocate h r k f (lowest_free h.kind)) (lowest_free h.kind)
act h (CLEAR r) = finished (write_root h r 0)
act h (COPY to from) = finished (write_root h to (root_at h from))
act h (LOAD to o s) = finished (write_root h to (slot_of h (held h o) s))
act h (STORE o s from) = finished (write_slot h (held h o) s (root_at h from))
act h COLLECT = finished (collect h)
act h (START r) = done (start_run h r) 0
act h FINISH = finished (finish_run h)

unfoldable pub by_refusal : Heap → Call → ℕ → Result
by_refusal h call zero = act h call
by_refusal h call (suc r) = refuse h (suc r)

-- one call on any tables of a heap, with any numbers, lent a table of N entries for the cells that it frees
unfoldable pub step : Heap → Call → Result
step h call = by_refusal h call (refusal h call)

-- ---- document 02, Q-5: which cells went

-- one call on any tables, with any numbers
unfoldable pub step_lent : Heap → List ℕ → Call → Result
step_lent h lent call = by_refusal h call (refusal_lent h lent call)

-- "its first "freed" entries are the freed cells' references in the order in which they became zeros, COLLECT's in cell order, and the rest are 0",
-- in a table of n entries
unfoldable pub references : ℕ → List ℕ → List ℕ
references n freed = map suc freed ++ replicate (n - length freed) 0

-- the lent table after a call done; "After a refusal it is as before"
unfoldable pub by_answer : ℕ → List ℕ → List ℕ → List ℕ
by_answer zero lent freed = references (length lent) freed
by_answer (suc r) lent freed = lent

-- the lent table after a call with this result
unfoldable pub listed : List ℕ → Result → List ℕ
listed lent r = by_answer r.answer.refused lent r.freed

-- A call stands so to the tables before and after it, to the lent table before and after it, and to its answer: what every function of the heap ensures.
-- FRESH takes no lent table, which is an empty one here.
pub record Did (call : Call) (before : Heap) (lent : List ℕ) (after : Heap) (list : List ℕ) (answer : Answer) : Type 0 where
  pub heap : after ≡ (step_lent before lent call).heap
  pub freed : list ≡ listed lent (step_lent before lent call)
  pub answered : answer ≡ (step_lent before lent call).answer

-- "A refusal changes no entry and reports freed 0, queued 0, cell 0." Q-5, of the lent table: "After a refusal it is as before."
pub record Unchanged (before : Heap) (lent : List ℕ) (after : Heap) (list : List ℕ) (answer : Answer) : Type 0 where
  pub tables : after ≡ before
  pub kept : list ≡ lent
  pub freed : answer.freed ≡ 0
  pub queued : answer.queued ≡ 0
  pub cell : answer.cell ≡ 0

-- a table of N entries, for calls that are made without one of their own
unfoldable pub room : Heap → List ℕ
room h = replicate (cells h) 0
