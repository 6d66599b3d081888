-- Document 02, Q-5, by examples: calls on four cells from a fresh heap, and the table of freed cells after each.
-- Assumes nothing: these are definitions.
use Rattle.std.specs.Prelude.{ℕ, List, [], ◌∷◌, map, ◌≡◌}
use Rattle.rules.specs.Heap.{fresh}
use Rattle.rules.specs.Refusals.{Call}
use Rattle.rules.specs.Refusals.Call.{NEW, CLEAR, COPY, STORE, COLLECT, START, FINISH}
use Rattle.rules.specs.Asked.Asked.{call}
use Rattle.rules.specs.Events.{run}

pub record CallsListed : Type 0 where
  pub calls : List Call
  pub lists : List (List ℕ)

abbrev lists : List Call → List (List ℕ) → CallsListed
lists calls tables = record { calls = calls; lists = tables }

-- four entries, and a table that names nothing
abbrev four : ℕ → ℕ → ℕ → ℕ → List ℕ
four a b c d = a ∷ b ∷ c ∷ d ∷ []

abbrev none : List ℕ
none = four 0 0 0 0

unfoldable pub list_examples : List CallsListed
list_examples =
    -- cell 1 holds cell 0: "the order in which they became zeros" is not the cells'
    lists (NEW 0 1 0 ∷ NEW 1 1 0 ∷ STORE 1 0 0 ∷ CLEAR 0 ∷ CLEAR 1 ∷ []) (none ∷ none ∷ none ∷ none ∷ four 2 1 0 0 ∷ [])
    -- cell 3 holds 2 and 0, and 2 holds 1: what was let go of first goes first
    ∷ lists (NEW 0 1 0 ∷ NEW 1 1 0 ∷ NEW 2 1 0 ∷ NEW 3 1 0 ∷ STORE 3 0 2 ∷ STORE 3 1 0 ∷ STORE 2 0 1 ∷ CLEAR 0 ∷ CLEAR 1 ∷ CLEAR 2 ∷ CLEAR 3 ∷ [])
    (none ∷ none ∷ none ∷ none ∷ none ∷ none ∷ none ∷ none ∷ none ∷ none ∷ four 4 3 1 2 ∷ [])
    -- "COLLECT's in cell order": a ring of 2, 0 and 1
    ∷ lists (NEW 0 1 0 ∷ NEW 1 1 0 ∷ NEW 2 1 0 ∷ STORE 2 0 0 ∷ STORE 0 0 1 ∷ STORE 1 0 2 ∷ CLEAR 0 ∷ CLEAR 1 ∷ CLEAR 2 ∷ COLLECT ∷ [])
    (none ∷ none ∷ none ∷ none ∷ none ∷ none ∷ none ∷ none ∷ none ∷ four 1 2 3 0 ∷ [])
    -- FINISH: what the running root holds by then goes before the head
    ∷ lists (NEW 0 1 1 ∷ CLEAR 0 ∷ START 0 ∷ NEW 1 2 0 ∷ COPY 0 1 ∷ CLEAR 1 ∷ FINISH ∷ []) (none ∷ none ∷ none ∷ none ∷ none ∷ none ∷ four 2 1 0 0 ∷ [])
    ∷ []

abbrev pub ListExamples : Type 0
ListExamples = map (λ e. map (λ x. x.list) (run (fresh 4) (map call e.calls))) list_examples ≡ map (λ e. e.lists) list_examples
