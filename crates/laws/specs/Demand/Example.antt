-- By computation: a list of thirteen calls on two cells, from a FRESH done on tables in which something stood, with the tables and the answer of each; and the
-- counts that the take-offs of the examples in `Counts` meet.
-- Assumes nothing.
use Rattle.std.specs.Prelude.{ℕ, List, [], ◌∷◌, map, refl, replicate}
use Rattle.rules.specs.declared.Answer.{Answer}
use Rattle.rules.specs.Lists.{every, all, below, occ, distinct, select}
use Rattle.rules.specs.Heap.{Heap, tables, slots_of, fresh, set_kind, set_flags, set_count, set_slot, set_root, set_running, set_queue, enqueue, plain, wipe}
use Rattle.rules.specs.Check.{fits, cell_ok, cell_at, ref_ok, entry_ok, running_ok, refs, count_ok, sound}
use Rattle.rules.specs.Refusals.{Call, number, lowest, lowest_free, new_ok, object_ok, conditions, is_fresh, refusal, lent_fits, refusal_lent}
use Rattle.rules.specs.Refusals.Call.{FRESH, NEW, CLEAR, LOAD, STORE, COLLECT, START, FINISH}
use Rattle.rules.specs.Release.{start, raise, incref, finalizable, refzero, decremented, lower, decref, decrefs, with_pending, retire, serve, drain, release}
use Rattle.rules.specs.Marking.{mark, mark_if, spread_from, spread, closure, mark_from}
use Rattle.rules.specs.Collect.{reached_marks, unreached_finalizable, enqueue_all, kept_marks, garbage, lower_all, unlink_all, wipe_all, rescued, rescue_all, swept, collect}
use Rattle.rules.specs.Calls.{refuse, done, finished, allocate, write_root, write_slot, start_run, leave_queue, finish_run, act, by_refusal, step, answers}
use Rattle.rules.specs.Calls.{step_lent, references, by_answer, listed, Did, room}
use Rattle.rules.specs.Asked.{obey}
use Rattle.rules.specs.Asked.Asked.{call}
use Rattle.rules.specs.Events.{calling, Event, Trace, Begins, run}
use Rattle.rules.specs.FreedLists.{list_examples, ListExamples}
use Rattle.rules.specs.Counts.{met, decrefs_met, serve_met, drain_met, release_met, lower_all_met, unlink_all_met, collect_met, write_root_met, write_slot_met, finish_run_met}
use Rattle.rules.specs.Counts.{act_met, by_refusal_met, step_met, run_met, examples, MetExamples}
use Rattle.laws.specs.Demand.Events.{run_trace}

-- tables for two cells: their kinds, flags and counts, the first slot of cell 0, the first two roots, the first queue entry, and control
abbrev two : (k₀ k₁ f₀ n₀ n₁ slot r₀ r₁ q length running : ℕ) → Heap
two k₀ k₁ f₀ n₀ n₁ slot r₀ r₁ q length running =
    tables (k₀ ∷ k₁ ∷ []) (f₀ ∷ 0 ∷ []) (n₀ ∷ n₁ ∷ []) (slot ∷ replicate 15 0) (r₀ ∷ r₁ ∷ replicate 62 0) (q ∷ 0 ∷ []) (length ∷ running ∷ [])

-- tables that fit and are not sound
abbrev pub stale : Heap
stale = tables (1 ∷ 9 ∷ []) (2 ∷ 2 ∷ []) (7 ∷ 0 ∷ []) (replicate 16 5) (replicate 64 3) (4 ∷ 4 ∷ []) (99 ∷ 99 ∷ [])

abbrev pub empty : Heap
empty = two 0 0 0 0 0 0 0 0 0 0 0

-- two objects, of which the first comes to be all that holds the second
abbrev pub one_object : Heap
one_object = two 1 0 0 1 0 0 1 0 0 0 0

abbrev two_objects : Heap
two_objects = two 1 1 0 1 1 0 1 2 0 0 0

abbrev stored : Heap
stored = two 1 1 0 1 2 2 1 2 0 0 0

abbrev pub holding : Heap
holding = two 1 1 0 1 1 2 1 0 0 0 0

-- an object with a finalizer, which comes to hold itself
abbrev finalizable_object : Heap
finalizable_object = two 1 0 1 1 0 0 1 0 0 0 0

abbrev holds_itself : Heap
holds_itself = two 1 0 1 2 0 1 1 0 0 0 0

-- and then nothing else holds it, with these flags
abbrev pub ring : ℕ → Heap
ring flags = two 1 0 flags 1 0 1 0 0 0 0 0

-- a sweep queues it, and its finalizer runs
abbrev pub queued_ring : Heap
queued_ring = two 1 0 1 2 0 1 0 0 1 1 0

abbrev running_ring : Heap
running_ring = two 1 0 1 3 0 1 1 0 1 1 1

-- the table for the freed cells is lent empty, and names so many of them afterwards, at most one here
abbrev event : Call → Heap → (named freed queued cell : ℕ) → Event
event c after named freed queued cell = record {
  request = calling c;
  lent = replicate 2 0;
  after = after;
  list = named ∷ 0 ∷ [];
  answer = answers 0 freed queued cell;
}

abbrev pub events : List Event
events =
    event (NEW 0 1 0) one_object 0 0 0 0
    ∷ event (NEW 1 1 0) two_objects 0 0 0 1
    ∷ event (STORE 0 0 1) stored 0 0 0 0
    ∷ event (CLEAR 1) holding 0 0 0 0
    ∷ event (STORE 0 0 1) one_object 2 1 0 0
    ∷ event (CLEAR 0) empty 1 1 0 0
    ∷ event (NEW 0 1 1) finalizable_object 0 0 0 0
    ∷ event (STORE 0 0 0) holds_itself 0 0 0 0
    ∷ event (CLEAR 0) (ring 1) 0 0 0 0
    ∷ event COLLECT queued_ring 0 0 1 0
    ∷ event (START 0) running_ring 0 0 0 0
    ∷ event FINISH (ring 3) 0 0 0 0
    ∷ event COLLECT empty 1 1 0 0
    ∷ []

-- a call that is lent no table
abbrev pub Alone : Call → Heap → Heap → Answer → Type 0
Alone c before after answer = Did c before [] after [] answer

-- FRESH done on the stale tables and then the list; two calls beside it, FRESH on a used cell, and LOAD from a root that is too high; the counts met, and the
-- lists of freed cells
pub computed :
    Alone FRESH stale empty (answers 0 0 0 0) × Trace empty events × Alone FRESH one_object empty (answers 0 0 0 0)
    × Did (LOAD 0 64 0) empty (7 ∷ 7 ∷ []) empty (7 ∷ 7 ∷ []) (answers 3 0 0 0) × MetExamples × ListExamples
unfolding every all below occ distinct select slots_of fresh set_kind set_flags set_count set_slot set_root set_running set_queue enqueue plain wipe fits cell_ok
    cell_at ref_ok entry_ok running_ok refs count_ok sound number lowest lowest_free new_ok object_ok conditions is_fresh refusal start raise incref finalizable
    refzero decremented lower decref decrefs with_pending retire serve drain release mark mark_if spread_from spread closure mark_from reached_marks unreached_finalizable
    enqueue_all kept_marks garbage lower_all unlink_all wipe_all rescued rescue_all swept collect refuse done finished allocate write_root write_slot start_run
    leave_queue finish_run act by_refusal step obey run met decrefs_met serve_met drain_met release_met lower_all_met unlink_all_met collect_met write_root_met write_slot_met
    finish_run_met act_met by_refusal_met step_met run_met examples lent_fits refusal_lent step_lent references by_answer listed room list_examples
computed = (
  record { heap = refl; freed = refl; answered = refl },
  run_trace empty (map call
      (NEW 0 1 0 ∷ NEW 1 1 0 ∷ STORE 0 0 1 ∷ CLEAR 1 ∷ STORE 0 0 1 ∷ CLEAR 0 ∷ NEW 0 1 1 ∷ STORE 0 0 0 ∷ CLEAR 0 ∷ COLLECT ∷ START 0 ∷ FINISH ∷ COLLECT ∷ [])),
  record { heap = refl; freed = refl; answered = refl },
  record { heap = refl; freed = refl; answered = refl },
  refl,
  refl,
)

abbrev pub begins : Begins empty
begins = record { stale = stale; answer = answers 0 0 0 0; did = computed.0; done = refl }

pub trace : Trace empty events
trace = computed.1

pub fresh_clears : Alone FRESH one_object empty (answers 0 0 0 0)
fresh_clears = computed.2

pub load_refused : Did (LOAD 0 64 0) empty (7 ∷ 7 ∷ []) empty (7 ∷ 7 ∷ []) (answers 3 0 0 0)
load_refused = computed.3

pub met_examples : MetExamples
met_examples = computed.4

pub list_examples_lem : ListExamples
list_examples_lem = computed.5
