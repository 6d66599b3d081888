-- The demands speak of something: what a list of calls would have to have in it for that. The crate `laws` has such a list.
-- Assumes nothing: these are definitions.
use Rattle.std.specs.Prelude.{ℕ, ◌≤◌, List}
use Rattle.rules.specs.Heap.{Heap, Used}
use Rattle.rules.specs.Reach.{LooseRing}
use Rattle.rules.specs.Events.{Event, Trace, Finds, Begins}
use Rattle.rules.specs.Demand3.{Frees, CompletedSweep}

-- a call of the list, with the tables that it finds
pub record SomeCall (h : Heap) (l : List Event) : Type 0 where
  pub before : Heap
  pub event : Event
  pub finds : Finds h l before event

-- it frees a cell
pub record SomeFrees (h : Heap) (l : List Event) : Type 0 where
  pub at : SomeCall h l
  pub cell : ℕ
  pub frees : Frees at.before at.event.after cell

-- it queues a cell
pub record SomeQueues (h : Heap) (l : List Event) : Type 0 where
  pub at : SomeCall h l
  pub queues : 1 ≤ at.event.answer.queued

-- it is a completed sweep that frees a cell, and a loose ring stands before it
pub record SomeSweeps (h : Heap) (l : List Event) : Type 0 where
  pub freeing : SomeFrees h l
  pub completed : CompletedSweep freeing.at.event
  pub ring : LooseRing freeing.at.before

-- a list from a FRESH done on tables in which a cell was used
pub record Witness : Type 0 where
  pub heap : Heap
  pub begins : Begins heap
  pub cell : ℕ
  pub stood : Used begins.stale cell
  pub calls : List Event
  pub trace : Trace heap calls
  pub frees : SomeFrees heap calls
  pub queues : SomeQueues heap calls
  pub sweeps : SomeSweeps heap calls
