-- Demand 2: "Each call done leaves exactly the tables and answer that document 01's rules say. From a sound heap it leaves a sound one."
-- The first sentence is `Did` itself, which each of the nine functions ensures. What follows from it for a sound heap is said here, of one call and of
-- every list of calls.
-- Assumes nothing: these are definitions.
use Rattle.std.specs.Prelude.{ℕ, suc, ◌+◌, List, ◌≡◌, ◌≢◌}
use Rattle.rules.specs.declared.Answer.{Answer}
use Rattle.rules.specs.Lists.{occ}
use Rattle.rules.specs.Heap.{Heap, count_of, Used}
use Rattle.rules.specs.Sound.{bump, Ready}
use Rattle.rules.specs.Refusals.{Call}
use Rattle.rules.specs.Refusals.Call.{FRESH}
use Rattle.rules.specs.Calls.{Did}
use Rattle.rules.specs.Events.{Event, Trace, Between, Begins}
use Rattle.rules.specs.Numbers.{TrueNumbers}

-- one call on a heap that fits and is sound
pub record KeepsSound (call : Call) (before after : Heap) (list : List ℕ) (answer : Answer) : Type 0 where
  -- "From a sound heap it leaves a sound one."
  pub ready : Ready after
  -- "freed (cells used before and free after); queued (cells put in the queue by this call)", of the eight calls, which also list the
  -- freed cells; FRESH answers 0 for both and lists nothing
  pub numbers : call ≢ FRESH → TrueNumbers call before after list answer

-- rule 6 in other words: every used cell's count is the references to it from roots and slots, plus one while it is queued
abbrev pub CountsReferences : Heap → Type 0
CountsReferences h = (c : ℕ) → Used h c → count_of h c ≡ occ (suc c) h.roots + occ (suc c) h.slots + bump h c

-- a list of calls that starts on the tables h: before the first call and after each one
pub record AlwaysSound (h : Heap) (l : List Event) : Type 0 where
  pub ready : (g : Heap) → Between h l g → Ready g
  pub counts : (g : Heap) → Between h l g → CountsReferences g

pub record Demand2 : Type 0 where
  pub keeps : (call : Call) (before : Heap) (lent : List ℕ) (after : Heap) (list : List ℕ) (answer : Answer) → Did call before lent after list answer → Ready before
      → KeepsSound call before after list answer
  pub always : (h : Heap) → Begins h → (l : List Event) → Trace h l → AlwaysSound h l
