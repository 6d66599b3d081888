-- The claims about the reader of heaps.
-- Assumes nothing: these are definitions.
use Rattle.std.specs.Prelude.{ℕ, ◌≡◌, List, [], ◌∷◌, ◌++◌, true}
use Rattle.rules.specs.Heap.{Heap}
use Rattle.rules.specs.Check.{fits}
use Rattle.dump.specs.Dumps.{heaps_of}
use Rattle.dump.specs.Reading.{State, start_state, within, after, given}

-- the heap that is given for one that is meant: it fits if that fits, and then it is that heap
pub record Alike (g m : Heap) : Type 0 where
  pub fit : fits g ≡ fits m
  pub same : fits m ≡ true → g ≡ m

-- heaps are alike one by one, and as many
pub data AllAlike : List Heap → List Heap → Type 0 where
  none : AllAlike [] []
  also : {g m : Heap} {gs ms : List Heap} → Alike g m → AllAlike gs ms → AllAlike (g ∷ gs) (m ∷ ms)

-- the heaps that are given for an input are those that it says
abbrev pub ReadsHeaps : Type 0
ReadsHeaps = (input : List ℕ) → AllAlike (given start_state input) (heaps_of input)

-- however the input is cut: what is given within its first part, and for the rest by the state that this leaves
abbrev pub AnyCut : Type 0
AnyCut = (s : State) (a b : List ℕ) → given s (a ++ b) ≡ within s a ++ given (after s a) b
