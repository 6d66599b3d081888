-- Demand 3: one claim about every list of calls from a fresh heap. No call frees a reached cell; after each completed sweep the used cells are just
-- the reached ones; without a sweep the same holds exactly when there is no loose ring, and exactly then a sweep frees and queues nothing.
-- Assumes nothing: these are definitions.
use Rattle.std.specs.Prelude.{ℕ, zero, suc, ◌+◌, ◌*◌, List, [], ◌≡◌, ◌↔◌, set}
use Rattle.rules.specs.declared.Answer.{Answer}
use Rattle.rules.specs.Heap.{Heap, root_at, entries, Used, Free}
use Rattle.rules.specs.Reach.{Chain, Exact, LooseRing}
use Rattle.rules.specs.Refusals.{Call}
use Rattle.rules.specs.Refusals.Call.{FRESH, NEW, CLEAR, COPY, LOAD, STORE, COLLECT, START, FINISH}
use Rattle.rules.specs.Calls.{held, Did}
use Rattle.rules.specs.Asked.Asked.{call, LINE}
use Rattle.rules.specs.Events.{Request, calling, Event, Trace, Finds, Between, Begins}
use Rattle.rules.specs.Events.Request.{asked, batch}

-- "A call frees a cell if the cell is used before it and free after it."
pub record Frees (before after : Heap) (c : ℕ) : Type 0 where
  pub used : Used before c
  pub free : Free after c

-- "The references that stood after a call's own write and before any freeing are the slots as the call found them,
-- with the one entry that a STORE done sets; for a FRESH done there are none." The number is the call's refusal, 0 for done
unfoldable pub stood : Heap → Call → ℕ → List ℕ
stood h FRESH zero = []
stood h FRESH (suc r) = h.slots
stood h (NEW r k f) n = h.slots
stood h (CLEAR r) n = h.slots
stood h (COPY to from) n = h.slots
stood h (LOAD to o s) n = h.slots
stood h (STORE o s from) zero = set h.slots (8 * held h o + s) (root_at h from)
stood h (STORE o s from) (suc r) = h.slots
stood h COLLECT n = h.slots
stood h (START r) n = h.slots
stood h FINISH n = h.slots

-- four numbers that name no call, and a batch that is refused, write none
abbrev pub stood_for : Heap → Request → ℕ → List ℕ
stood_for h (asked (call c)) n = stood h c n
stood_for h (asked LINE) n = h.slots
stood_for h (batch b) n = h.slots

-- "No call in it frees a cell that the roots and the queue, as the call leaves them, reach by the references that stood after its own write and before any freeing."
abbrev pub SafeBy : Heap → Heap → List ℕ → Type 0
SafeBy before after slots = (c : ℕ) → Frees before after c → ¬ Chain after.roots (entries after) slots c

abbrev pub Safe : Heap → Event → Type 0
Safe before e = SafeBy before e.after (stood_for before e.request e.answer.refused)

-- "A completed sweep is a COLLECT answered with refusal 0."
pub record CompletedSweep (e : Event) : Type 0 where
  pub collects : e.request ≡ calling COLLECT
  pub done : e.answer.refused ≡ 0

-- a sweep made next, lent some table: its tables and its answer
pub record NextSweep (h after : Heap) (answer : Answer) : Type 0 where
  pub lent : List ℕ
  pub list : List ℕ
  pub did : Did COLLECT h lent after list answer
  pub done : answer.refused ≡ 0

-- a completed sweep made next frees nothing and queues nothing, by the tables: no cell is freed, and the queue's entries stay as they are
pub record QuietSweep (h : Heap) : Type 0 where
  pub after : Heap
  pub answer : Answer
  pub sweep : NextSweep h after answer
  pub frees_nothing : (c : ℕ) → ¬ Frees h after c
  pub queues_nothing : entries after ≡ entries h

-- the same by the sweep's answer
pub record QuietAnswer (h : Heap) : Type 0 where
  pub after : Heap
  pub answer : Answer
  pub sweep : NextSweep h after answer
  pub freed : answer.freed ≡ 0
  pub queued : answer.queued ≡ 0

-- what holds of a list of calls that starts on the tables h
pub record Claim (h : Heap) (l : List Event) : Type 0 where
  pub safe : (before : Heap) (e : Event) → Finds h l before e → Safe before e
  -- "After each completed sweep the used cells are just those that roots and queue reach."
  pub swept : (before : Heap) (e : Event) → Finds h l before e → CompletedSweep e → Exact e.after
  -- "Before the first call and after each one the same holds without a sweep exactly when
  -- no unreached used cells refer to each other, or to themselves, in a ring."
  pub counted : (g : Heap) → Between h l g → Exact g ↔ ¬ LooseRing g
  -- "And exactly then a completed sweep made next frees nothing and queues nothing": by the tables, and by its answer
  pub quiet : (g : Heap) → Between h l g → QuietSweep g ↔ ¬ LooseRing g
  pub answered : (g : Heap) → Between h l g → QuietAnswer g ↔ ¬ LooseRing g

-- "Take every list of the calls, in any order and with any numbers, refused ones among them. It starts from a fresh heap."
abbrev pub Demand3 : Type 0
Demand3 = (h : Heap) → Begins h → (l : List Event) → Trace h l → Claim h l
