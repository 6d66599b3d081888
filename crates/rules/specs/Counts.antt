-- Document 02, Q-10, as a claim: no take-off meets a count of zero, and were one to, nothing would hide it.
-- For every call, the list of the counts that its take-offs meet, in order. Each definition goes through the tables just as the rule whose name it has,
-- and notes every count before it falls.
-- Assumes nothing: these are definitions.
use Rattle.std.specs.Prelude.{ℕ, zero, suc, ◌+◌, ◌*◌, ◌-◌, ◌≤◌, ◌<◌, List, [], ◌∷◌, ◌++◌, map, ◌≢◌, ◌≡◌, length}
use Rattle.rules.specs.declared.Answer.{Answer}
use Rattle.rules.specs.Lists.{occ, sum}
use Rattle.rules.specs.Heap.{Heap, cells, running, count_of, slot_of, slots_of, root_at, queue_at, fresh, set_root, set_slot}
use Rattle.rules.specs.Sound.{Ready}
use Rattle.rules.specs.Release.{Work, start, incref, decref, with_pending, serve, release}
use Rattle.rules.specs.Collect.{unreached_finalizable, enqueue_all, garbage, lower_all}
use Rattle.rules.specs.Refusals.{Call, refusal_lent}
use Rattle.rules.specs.Refusals.Call.{FRESH, NEW, CLEAR, COPY, LOAD, STORE, COLLECT, START, FINISH}
use Rattle.rules.specs.Calls.{held, leave_queue, step, Did, room}
use Rattle.rules.specs.Events.{calling, Event, Trace, Finds, Begins}

-- ---- one take-off

-- the count of what r names, if anything
unfoldable pub met : Heap → ℕ → List ℕ
met h zero = []
met h (suc c) = count_of h c ∷ []

-- ---- a cascade

unfoldable pub decrefs_met : Work → List ℕ → List ℕ
decrefs_met w [] = []
decrefs_met w (r ∷ l) = met w.heap r ++ decrefs_met (decref w r) l

-- the slots of the cell that is served, from 0 to 7
unfoldable pub serve_met : Work → ℕ → List ℕ → List ℕ
serve_met w c rest = decrefs_met (with_pending w rest) (slots_of w.heap.slots c)

unfoldable pub drain_met : ℕ → Work → List ℕ
drain_met zero w = []
drain_met (suc fuel) w = elim w.pending [ [] ↦ [] | c ∷ rest ↦ serve_met w c rest ++ drain_met fuel (serve w c rest) ]

unfoldable pub release_met : Work → ℕ → List ℕ
release_met w r = met w.heap r ++ drain_met (cells w.heap) (decref w r)

-- ---- a sweep's first round, slot by slot

unfoldable pub lower_all_met : Heap → List ℕ → List ℕ
lower_all_met h [] = []
lower_all_met h (r ∷ l) = met h r ++ lower_all_met (lower_all h (r ∷ [])) l

unfoldable pub unlink_all_met : Heap → List ℕ → List ℕ
unlink_all_met h [] = []
unlink_all_met h (c ∷ l) = lower_all_met h (slots_of h.slots c) ++ unlink_all_met (lower_all h (slots_of h.slots c)) l

unfoldable pub collect_met : Heap → List ℕ
collect_met h = unlink_all_met (enqueue_all h (unreached_finalizable h)) (garbage h)

-- ---- every call

unfoldable pub write_root_met : Heap → ℕ → ℕ → List ℕ
write_root_met h to r = release_met (start (set_root (incref h r) to r)) (root_at h to)

unfoldable pub write_slot_met : Heap → ℕ → ℕ → ℕ → List ℕ
write_slot_met h c s r = release_met (start (set_slot (incref h r) (8 * c + s) r)) (slot_of h c s)

-- FINISH's two take-offs, the second from where the first one ends
unfoldable pub finish_run_met : Heap → List ℕ
finish_run_met h =
    release_met (start (leave_queue h)) (root_at h (running h - 1)) ++ release_met (release (start (leave_queue h)) (root_at h (running h - 1))) (queue_at h 0)

unfoldable pub act_met : Heap → Call → List ℕ
act_met h FRESH = []
act_met h (NEW r k f) = []
act_met h (CLEAR r) = write_root_met h r 0
act_met h (COPY to from) = write_root_met h to (root_at h from)
act_met h (LOAD to o s) = write_root_met h to (slot_of h (held h o) s)
act_met h (STORE o s from) = write_slot_met h (held h o) s (root_at h from)
act_met h COLLECT = collect_met h
act_met h (START r) = []
act_met h FINISH = finish_run_met h

-- a refused call takes nothing off
unfoldable pub by_refusal_met : Heap → Call → ℕ → List ℕ
by_refusal_met h call zero = act_met h call
by_refusal_met h call (suc r) = []

-- one call on any tables, with any numbers
unfoldable pub step_met : Heap → List ℕ → Call → List ℕ
step_met h lent call = by_refusal_met h call (refusal_lent h lent call)

-- ---- the claim

-- 1 for a reference that names a cell
unfoldable pub named : ℕ → ℕ
named zero = 0
named (suc c) = 1

-- how many counts a call raises for what it places in a root or a slot
unfoldable pub placed : Heap → Call → ℕ
placed h FRESH = 0
placed h (NEW r k f) = 1
placed h (CLEAR r) = 0
placed h (COPY to from) = named (root_at h from)
placed h (LOAD to o s) = named (slot_of h (held h o) s)
placed h (STORE o s from) = named (root_at h from)
placed h COLLECT = 0
placed h (START r) = named (queue_at h 0)
placed h FINISH = 0

pub record AboveZero (call : Call) (before : Heap) (lent : List ℕ) (after : Heap) (answer : Answer) : Type 0 where
  -- "no taking-off, at any point of a cascade, a sweep or a FINISH, meets a zero count"
  pub none : occ 0 (step_met before lent call) ≡ 0
  -- And no take-off is missing from the list: what the counts lose altogether is one for each of its entries. What they gain is one for each cell
  -- that the call queues, and what it places. FRESH takes nothing off: it writes.
  pub all : call ≢ FRESH → answer.refused ≡ 0
      → sum after.count + length (step_met before lent call) ≡ sum before.count + answer.queued + placed before call

-- a count met at zero: the list has it, and the table would then hold what no 16-bit table can, after a cascade's step and after a sweep's
pub record Shows (w : Work) (c : ℕ) : Type 0 where
  pub noted : met w.heap (suc c) ≡ 0 ∷ []
  pub cascade : 65536 ≤ count_of (decref w (suc c)).heap c
  pub sweep : 65536 ≤ count_of (lower_all w.heap (suc c ∷ [])) c

pub record CountsAboveZero : Type 0 where
  -- "from a sound heap": every call
  pub each : (call : Call) (before : Heap) (lent : List ℕ) (after : Heap) (list : List ℕ) (answer : Answer) → Did call before lent after list answer → Ready before
      → AboveZero call before lent after answer
  -- and so every call of every list from a FRESH done
  pub always : (h : Heap) → Begins h → (l : List Event) → Trace h l
      → (before : Heap) (e : Event) → Finds h l before e → (c : Call) → e.request ≡ calling c → AboveZero c before e.lent e.after e.answer
  -- "would hide the very fault I fear": nothing does
  pub shows : (w : Work) (c : ℕ) → c < length w.heap.count → count_of w.heap c ≡ 0 → Shows w c

-- ---- the lists of some examples, most of them of the counter book

-- call after call
unfoldable pub run_met : Heap → List Call → List (List ℕ)
run_met h [] = []
run_met h (call ∷ l) = step_met h (room h) call ∷ run_met (step h call).heap l

pub record CallsMet : Type 0 where
  pub calls : List Call
  pub counts : List (List ℕ)

abbrev meets : List Call → List (List ℕ) → CallsMet
meets calls counts = record { calls = calls; counts = counts }

unfoldable pub examples : List CallsMet
examples =
    -- K2: CLEAR of root 1, then a cascade of two
    meets (NEW 0 1 0 ∷ NEW 1 2 0 ∷ STORE 0 0 1 ∷ CLEAR 1 ∷ CLEAR 0 ∷ []) ([] ∷ [] ∷ [] ∷ (2 ∷ []) ∷ (1 ∷ 1 ∷ []) ∷ [])
    -- K3: the count is raised before it is taken off
    ∷ meets (NEW 0 1 0 ∷ COPY 0 0 ∷ []) ([] ∷ (2 ∷ []) ∷ [])
    -- K4: cell 0, and then its slot
    ∷ meets (NEW 0 1 0 ∷ NEW 1 1 0 ∷ STORE 0 0 1 ∷ CLEAR 1 ∷ LOAD 0 0 0 ∷ []) ([] ∷ [] ∷ [] ∷ (2 ∷ []) ∷ (1 ∷ 2 ∷ []) ∷ [])
    -- K5: a sweep of two that hold each other
    ∷ meets (NEW 0 1 0 ∷ NEW 1 1 0 ∷ STORE 0 0 1 ∷ STORE 1 0 0 ∷ CLEAR 0 ∷ CLEAR 1 ∷ COLLECT ∷ [])
    ([] ∷ [] ∷ [] ∷ [] ∷ (2 ∷ []) ∷ (2 ∷ []) ∷ (1 ∷ 1 ∷ []) ∷ [])
    -- K6: both take-offs of FINISH
    ∷ meets (NEW 0 1 1 ∷ CLEAR 0 ∷ START 0 ∷ FINISH ∷ []) ([] ∷ (1 ∷ []) ∷ [] ∷ (2 ∷ 1 ∷ []) ∷ [])
    -- K9: a sweep queues one that holds itself, so that its count rises; FINISH; and another sweep frees it
    ∷ meets (NEW 0 1 1 ∷ STORE 0 0 0 ∷ CLEAR 0 ∷ COLLECT ∷ START 0 ∷ FINISH ∷ COLLECT ∷ []) ([] ∷ [] ∷ (2 ∷ []) ∷ [] ∷ [] ∷ (3 ∷ 2 ∷ []) ∷ (1 ∷ []) ∷ [])
    -- K10: a cascade that queues two
    ∷ meets (NEW 0 1 0 ∷ NEW 1 1 1 ∷ NEW 2 1 1 ∷ STORE 0 0 2 ∷ STORE 0 1 1 ∷ CLEAR 1 ∷ CLEAR 2 ∷ CLEAR 0 ∷ [])
    ([] ∷ [] ∷ [] ∷ [] ∷ [] ∷ (2 ∷ []) ∷ (2 ∷ []) ∷ (1 ∷ 1 ∷ 1 ∷ []) ∷ [])
    -- a chain of three: a cascade that takes off the slots of one cell after another
    ∷ meets (NEW 0 1 0 ∷ NEW 1 1 0 ∷ NEW 2 2 0 ∷ STORE 0 0 1 ∷ STORE 1 0 2 ∷ CLEAR 2 ∷ CLEAR 1 ∷ CLEAR 0 ∷ [])
    ([] ∷ [] ∷ [] ∷ [] ∷ [] ∷ (2 ∷ []) ∷ (2 ∷ []) ∷ (1 ∷ 1 ∷ 1 ∷ []) ∷ [])
    -- a slot that is written again
    ∷ meets (NEW 0 1 0 ∷ NEW 1 1 0 ∷ STORE 0 7 1 ∷ STORE 0 7 0 ∷ []) ([] ∷ [] ∷ [] ∷ (2 ∷ []) ∷ [])
    -- a sweep of one that holds itself in three slots and, in a fourth, what a root holds too
    ∷ meets (NEW 0 1 0 ∷ NEW 1 2 0 ∷ STORE 0 0 0 ∷ STORE 0 1 1 ∷ STORE 0 2 0 ∷ STORE 0 7 0 ∷ CLEAR 0 ∷ COLLECT ∷ CLEAR 1 ∷ [])
    ([] ∷ [] ∷ [] ∷ [] ∷ [] ∷ [] ∷ (4 ∷ []) ∷ (3 ∷ 2 ∷ 2 ∷ 1 ∷ []) ∷ (1 ∷ []) ∷ [])
    ∷ []

abbrev pub MetExamples : Type 0
MetExamples = map (λ e. run_met (fresh 4) e.calls) examples ≡ map (λ e. e.counts) examples
