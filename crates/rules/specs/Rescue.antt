-- Document 02, Q-2, as a claim: what a COLLECT makes of the flags of a cell that it doesn't free.
-- Assumes nothing: these are definitions.
use Rattle.std.specs.Prelude.{ℕ, ◌≤◌, List, ◌≢◌, ◌≡◌}
use Rattle.rules.specs.declared.Answer.{Answer}
use Rattle.rules.specs.Heap.{Heap, queued, flags_of}
use Rattle.rules.specs.Refusals.Call.{COLLECT}
use Rattle.rules.specs.Calls.{Did}
use Rattle.rules.specs.Demand3.{Frees, NextSweep}

pub record RescueDecisions : Type 0 where
  -- "if the queue held anything when COLLECT began, no flags 3 become 1 in that COLLECT": no flags of a cell that stays change at all
  pub postponed : {before after : Heap} {lent list : List ℕ} {answer : Answer} → Did COLLECT before lent after list answer → 1 ≤ queued before
      → (c : ℕ) → ¬ Frees before after c → flags_of after c ≡ flags_of before c
  -- if it held nothing, a COLLECT done gives a cell that stays flags 1 for flags 3
  pub made : {before after : Heap} {answer : Answer} → NextSweep before after answer → queued before ≡ 0
      → (c : ℕ) → ¬ Frees before after c → flags_of before c ≡ 3 → flags_of after c ≡ 1
  -- and other flags it never changes
  pub others : {before after : Heap} {lent list : List ℕ} {answer : Answer} → Did COLLECT before lent after list answer
      → (c : ℕ) → ¬ Frees before after c → flags_of before c ≢ 3 → flags_of after c ≡ flags_of before c
