-- Document 02, Q-7: batches among single calls. "Demand 3 takes each record of a batch done, a LINE one too, as a call of its own, and a refused batch as one
-- refused call."
-- Assumes nothing: these are definitions.
use Rattle.std.specs.Prelude.{List, [], ◌∷◌, ◌++◌, map, ◌≢◌, ◌≡◌}
use Rattle.rules.specs.declared.Answer.{Answer}
use Rattle.rules.specs.declared.batch.Totals.{Totals}
use Rattle.rules.specs.Heap.{Heap}
use Rattle.rules.specs.Sound.{Ready}
use Rattle.rules.specs.Batch.{Batch, asks, Batched}
use Rattle.rules.specs.Events.{Event, Occurred, Trace, Between, left, Begins, run, refused_batch, events_of}
use Rattle.rules.specs.Demand2.{AlwaysSound}
use Rattle.rules.specs.Demand3.{Claim}

-- A batch is a stretch of a list of calls, on any tables
pub record IsStretch (b : Batch) (before after : Heap) (list : List Answer) (answer : Answer) : Type 0 where
  pub trace : Trace before (events_of before b)
  pub leaves : left before (events_of before b) ≡ after
  -- done: one event for each record, by the rules of the single calls, and the answers are theirs
  pub done : answer.refused ≡ 0 → events_of before b ≡ run before (asks b.records)
  pub answers : answer.refused ≡ 0 → list ≡ map (λ (e : Event). e.answer) (events_of before b)
  -- refused: one event
  pub refused : answer.refused ≢ 0 → events_of before b ≡ refused_batch before b answer.refused ∷ []
  -- "The heap is checked once": every record finds a sound heap, and leaves one
  pub ready : answer.refused ≡ 0 → (g : Heap) → Between before (events_of before b) g → Ready g

abbrev pub BatchIsStretch : Type 0
BatchIsStretch = (b : Batch) (before after : Heap) (list : List Answer) (sums : Totals) (answer : Answer) → Batched b before after list sums answer
    → IsStretch b before after list answer

-- what the host calls, with what that left: one of the nine calls or a line, or a batch
pub data HostCall : Type 0 where
  single : Event → HostCall
  batched : (b : Batch) (after : Heap) (list : List Answer) (sums : Totals) (answer : Answer) → HostCall

-- each finds the tables as the one before left them
abbrev pub HostTrace : Heap → List HostCall → Type 0
HostTrace h [] = Unit
HostTrace h (single e ∷ l) = Occurred h e × HostTrace e.after l
HostTrace h (batched b after list sums answer ∷ l) = Batched b h after list sums answer × HostTrace after l

-- the list of calls of which the demands then speak
unfoldable pub events_in : Heap → List HostCall → List Event
events_in h [] = []
events_in h (single e ∷ l) = e ∷ events_in e.after l
events_in h (batched b after list sums answer ∷ l) = events_of h b ++ events_in after l

-- demands 2 and 3, of every list in which batches and single calls mix
pub record MixedKeeps (h : Heap) (l : List HostCall) : Type 0 where
  pub trace : Trace h (events_in h l)
  pub always : AlwaysSound h (events_in h l)
  pub claim : Claim h (events_in h l)

abbrev pub MixedCalls : Type 0
MixedCalls = (h : Heap) → Begins h → (l : List HostCall) → HostTrace h l → MixedKeeps h l
