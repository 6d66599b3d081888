-- Lists of calls, of which the demands speak: "In a sequence each call finds the heap's tables as the one before left them; nobody else writes them in
-- between." Q-7 of document 02: "Demand 3 takes each record of a batch done, a LINE one too, as a call of its own, and a refused batch as one refused call."
-- Assumes nothing: these are definitions.
use Rattle.std.specs.Prelude.{ℕ, zero, suc, List, [], ◌∷◌, ◌≢◌, ◌≡◌}
use Rattle.rules.specs.declared.Answer.{Answer}
use Rattle.rules.specs.Heap.{Heap}
use Rattle.rules.specs.Refusals.{Call}
use Rattle.rules.specs.Refusals.Call.{FRESH}
use Rattle.rules.specs.Calls.{answers, listed, Did, Unchanged, room}
use Rattle.rules.specs.Asked.{Asked, obey}
use Rattle.rules.specs.Asked.Asked.{call, LINE}
use Rattle.rules.specs.Batch.{Batch, asks, refusal_of}

-- what is asked for: a call by itself or by a record or line, four numbers that name none, or a batch that is refused
pub data Request : Type 0 where
  asked : Asked → Request
  batch : Batch → Request

-- one of the nine calls
abbrev pub calling : Call → Request
calling c = asked (call c)

-- one request of a list: what was asked for, the table that it was lent, the tables and the list of freed cells that it left, and its answer
pub record Event : Type 0 where
  pub request : Request
  pub lent : List ℕ
  pub after : Heap
  pub list : List ℕ
  pub answer : Answer

-- refused with this number
pub record Refused (n : ℕ) (before : Heap) (lent : List ℕ) (after : Heap) (list : List ℕ) (answer : Answer) : Type 0 where
  pub why : answer.refused ≡ n
  pub unchanged : Unchanged before lent after list answer

-- what was asked for stands so to the tables before and after it, to the lent table before and after it, and to its answer
abbrev pub Happened : Request → Heap → List ℕ → Heap → List ℕ → Answer → Type 0
Happened (asked (call c)) before lent after list answer = Did c before lent after list answer
Happened (asked LINE) before lent after list answer = Refused 11 before lent after list answer
Happened (batch b) before lent after list answer = (refusal_of before b ≢ 0) × Refused (refusal_of before b) before lent after list answer

-- an event on these tables
abbrev pub Occurred : Heap → Event → Type 0
Occurred before e = Happened e.request before e.lent e.after e.list e.answer

-- each finds the tables as the one before left them. The lent table may be another each time
abbrev pub Trace : Heap → List Event → Type 0
Trace h [] = Unit
Trace h (e ∷ l) = Occurred h e × Trace e.after l

-- event e of a list that starts on the tables h finds the tables `before`
pub data Finds : Heap → List Event → Heap → Event → Type 0 where
  here : {h : Heap} {e : Event} {l : List Event} → Finds h (e ∷ l) h e
  later : {h before : Heap} {d e : Event} {l : List Event} → Finds d.after l before e → Finds h (d ∷ l) before e

-- tables as they are before the first event of the list, or after one of them
pub data Between : Heap → List Event → Heap → Type 0 where
  first : {h : Heap} {l : List Event} → Between h l h
  behind : {h g : Heap} {d : Event} {l : List Event} → Between d.after l g → Between h (d ∷ l) g

-- the tables that the list leaves
unfoldable pub left : Heap → List Event → Heap
left h [] = h
left h (e ∷ l) = left e.after l

-- "Demand 3's list starts from a FRESH done on tables of any N, whatever stood there": the tables that it leaves
pub record Begins (h : Heap) : Type 0 where
  pub stale : Heap
  pub answer : Answer
  pub did : Did FRESH stale [] h [] answer
  pub done : answer.refused ≡ 0

-- ---- the lists that the rules make

-- what is asked for is done by the rules, lent a table of N entries
abbrev pub event_of : Heap → Asked → Event
event_of h q = record { request = asked q; lent = room h; after = (obey h q).heap; list = listed (room h) (obey h q); answer = (obey h q).answer }

unfoldable pub run : Heap → List Asked → List Event
run h [] = []
run h (q ∷ l) = event_of h q ∷ run (obey h q).heap l

-- a batch refused by this number, which takes no table
abbrev pub refused_batch : Heap → Batch → ℕ → Event
refused_batch h b r = record { request = batch b; lent = []; after = h; list = []; answer = answers r 0 0 0 }

-- "each record of a batch done, a LINE one too, as a call of its own, and a refused batch as one refused call"
unfoldable pub by_refusal_events : Heap → Batch → ℕ → List Event
by_refusal_events h b zero = run h (asks b.records)
by_refusal_events h b (suc r) = refused_batch h b (suc r) ∷ []

unfoldable pub events_of : Heap → Batch → List Event
events_of h b = by_refusal_events h b (refusal_of h b)
