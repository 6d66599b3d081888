-- Document 01, "The program": the call that a line's four numbers name, and what it does. "The call's number 1 to 8, then its arguments in the order above, unused ones 0."
-- Assumes nothing: these are definitions.
use Rattle.std.specs.Prelude.{ℕ, List, [], ◌∷◌, Bool, true, false, ◌&&◌, ◌||◌, cond, eqb, leb, ◌≡◌, get_or}
use Rattle.rules.specs.declared.Answer.{Answer}
use Rattle.rules.specs.Heap.{Heap}
use Rattle.rules.specs.Calls.{Result, refuse, step}
use Rattle.rules.specs.Refusals.{Call}
use Rattle.rules.specs.Refusals.Call.{NEW, CLEAR, COPY, LOAD, STORE, COLLECT, START, FINISH}

-- what four numbers ask for: a call, or nothing, which is "refused 11 LINE"
pub data Asked : Type 0 where
  call : Call → Asked
  LINE : Asked

-- how many of its three arguments call n uses; a number that names no call leaves none unused
unfoldable pub uses : ℕ → ℕ
uses n = get_or (3 ∷ 3 ∷ 1 ∷ 2 ∷ 3 ∷ 3 ∷ 0 ∷ 1 ∷ 0 ∷ []) n 3

-- argument number i is among the first u, or 0
unfoldable pub used_or_zero : ℕ → ℕ → ℕ → Bool
used_or_zero u i x = leb i u || eqb x 0

-- "unused ones 0": the arguments after the first u
unfoldable pub unused_zero : ℕ → ℕ → ℕ → ℕ → Bool
unused_zero u x y z = used_or_zero u 1 x && used_or_zero u 2 y && used_or_zero u 3 z

-- "the call's number 1 to 8"; 0 names none
abbrev pub calls_by_number : ℕ → ℕ → ℕ → List Asked
calls_by_number x y z =
    LINE ∷ call (NEW x y z) ∷ call (CLEAR x) ∷ call (COPY x y) ∷ call (LOAD x y z) ∷ call (STORE x y z) ∷ call COLLECT ∷ call (START x) ∷ call FINISH ∷ []

-- from 9 up none either
unfoldable pub call_numbered : ℕ → ℕ → ℕ → ℕ → Asked
call_numbered n x y z = get_or (calls_by_number x y z) n LINE

unfoldable pub call_of : ℕ → ℕ → ℕ → ℕ → Asked
call_of n x y z = cond (unused_zero (uses n) x y z) (call_numbered n x y z) LINE

-- four numbers name a call
unfoldable pub is_call : Asked → Bool
is_call (call c) = true
is_call LINE = false

-- what is asked for is done; LINE "is refused 11 LINE" "and does nothing"
unfoldable pub obey : Heap → Asked → Result
obey h (call c) = step h c
obey h LINE = refuse h 11

-- what was asked for stands so to the tables before and after it and to its answer
pub record Obeyed (asked : Asked) (before after : Heap) (answer : Answer) : Type 0 where
  pub heap : after ≡ (obey before asked).heap
  pub answered : answer ≡ (obey before asked).answer

-- one after another, each on the tables that the one before left: the tables in the end, and the answers
unfoldable pub obey_all : Heap → List Asked → Heap
obey_all h [] = h
obey_all h (q ∷ l) = obey_all (obey h q).heap l

unfoldable pub answers_to : Heap → List Asked → List Answer
answers_to h [] = []
answers_to h (q ∷ l) = (obey h q).answer ∷ answers_to (obey h q).heap l
