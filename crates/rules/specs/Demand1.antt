-- Demand 1: "Any call on any tables, with any numbers, ends and does nothing undefined. It is done, or refused with the one number the papers list,
-- exactly when they list it. A refusal changes no entry and reports freed 0, queued 0, cell 0."
-- The first sentence is what the prover demands of every function. The others are said here of a call, of four numbers and of a batch that stand to tables
-- and answer as `Did`, `Obeyed` and `Batched` say, which is what the functions ensure.
-- Assumes nothing: these are definitions.
use Rattle.std.specs.Prelude.{ℕ, ◌<◌, List, [], ◌≡◌, ◌↔◌, ◌⊎◌, ◌≢◌}
use Rattle.rules.specs.declared.Answer.{Answer}
use Rattle.rules.specs.declared.batch.Totals.{Totals}
use Rattle.rules.specs.Heap.{Heap}
use Rattle.rules.specs.Refusals.{Call, Reason, number, Why}
use Rattle.rules.specs.Refusals.Reason.{LINE}
use Rattle.rules.specs.Calls.{Did, Unchanged, room}
use Rattle.rules.specs.Asked.{Asked, Obeyed}
use Rattle.rules.specs.Asked.Asked.{call, LINE as no_call}
use Rattle.rules.specs.Batch.{Batch, WhyBatch, Batched}

-- "Several at once: the lowest number": the reason holds, and none with a lower number does
pub record Lowest (why : Reason → Type 0) (k : Reason) : Type 0 where
  pub given : why k
  pub first : (j : Reason) → number j < number k → ¬ why j

-- by the reasons that the papers list, and by what a refusal leaves as it was
pub record DoneOrRefused (why : Reason → Type 0) (same : Type 0) (answer : Answer) : Type 0 where
  -- "It is done, or refused with the one number the papers list": the answer says 0, or the number of a reason
  pub listed : (answer.refused ≡ 0) ⊎ ((k : Reason) × (answer.refused ≡ number k))
  -- "exactly when they list it"
  pub refused : (k : Reason) → (answer.refused ≡ number k) ↔ Lowest why k
  pub done : (answer.refused ≡ 0) ↔ ((k : Reason) → ¬ why k)
  pub unchanged : answer.refused ≢ 0 → same

-- why four numbers are refused: as the call that they name, lent a table of N entries; where they name none, always "refused 11 LINE"
abbrev pub WhyAsked : Reason → Heap → Asked → Type 0
WhyAsked k h (call c) = Why k h (room h) c
WhyAsked k h no_call = k ≡ LINE

-- "A refused batch writes nothing."
pub record WritesNothing (b : Batch) (before after : Heap) (list : List Answer) (sums : Totals) (answer : Answer) : Type 0 where
  pub unchanged : Unchanged before [] after [] answer
  pub answers : list ≡ b.answers
  pub totals : sums ≡ b.totals

pub record Demand1 : Type 0 where
  -- of any call, with any numbers, on any tables
  pub calls : (call : Call) (before : Heap) (lent : List ℕ) (after : Heap) (list : List ℕ) (answer : Answer) → Did call before lent after list answer
      → DoneOrRefused (λ k. Why k before lent call) (Unchanged before lent after list answer) answer
  -- of four numbers, in a line or in a record of a batch
  pub numbers : (q : Asked) (before after : Heap) (answer : Answer) → Obeyed q before after answer
      → DoneOrRefused (λ k. WhyAsked k before q) (Unchanged before [] after [] answer) answer
  -- of a batch, with any lists and totals
  pub batches : (b : Batch) (before after : Heap) (list : List Answer) (sums : Totals) (answer : Answer) → Batched b before after list sums answer
      → DoneOrRefused (λ k. WhyBatch k before b) (WritesNothing b before after list sums answer) answer
