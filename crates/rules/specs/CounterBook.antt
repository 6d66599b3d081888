-- Document 01, "Counter book: twelve marked examples", and three of Q-2 in document 02, as data: the cells of the fresh heap, each call with its
-- answer, and what the paper says of counts, flags, kinds and queue after it. The paper gives N for K1 alone; the others have room for what they make.
-- Assumes nothing: these are definitions.
use Rattle.std.specs.Prelude.{ℕ, suc, List, [], ◌∷◌, ◌++◌, map, Bool, true, false, ◌&&◌, ◌≡◌, eqb}
use Rattle.rules.specs.declared.Answer.{Answer}
use Rattle.rules.specs.Lists.{every}
use Rattle.rules.specs.Heap.{Heap, kind_of, flags_of, count_of, entries, fresh}
use Rattle.rules.specs.Refusals.{Call}
use Rattle.rules.specs.Refusals.Call.{NEW, CLEAR, COPY, LOAD, STORE, COLLECT, START, FINISH}
use Rattle.rules.specs.Calls.{answers, step}

-- what stands in a cell's entry, or which cells wait in the queue, oldest first
pub data Fact : Type 0 where
  kind count flags : ℕ → ℕ → Fact
  queue : List ℕ → Fact

-- a call, its answer, and facts that hold after it
pub record Line : Type 0 where
  pub call : Call
  pub answer : Answer
  pub facts : List Fact

pub record Example : Type 0 where
  pub cells : ℕ
  pub lines : List Line

-- ---- the book

abbrev line : Call → Answer → List Fact → Line
line c a f = record { call = c; answer = a; facts = f }

-- answers: done with nothing to tell; done by freeing and queueing so many; refused
abbrev ok : Answer
ok = answers 0 0 0 0

abbrev frees : ℕ → ℕ → Answer
frees f q = answers 0 f q 0

abbrev refused_by : ℕ → Answer
refused_by r = answers r 0 0 0

-- NEW of an object, an object with a finalizer ("fin"), a string
abbrev object : ℕ → ℕ → Line
object r c = line (NEW r 1 0) (answers 0 0 0 c) []

abbrev fin : ℕ → ℕ → Line
fin r c = line (NEW r 1 1) (answers 0 0 0 c) []

abbrev string : ℕ → ℕ → Line
string r c = line (NEW r 2 0) (answers 0 0 0 c) []

abbrev then : Call → Line
then c = line c ok []

-- four cells unless the paper says otherwise
abbrev of4 : List Line → Example
of4 l = record { cells = 4; lines = l }

-- K6 and K7 up to START: a fin's last root is cleared, and its finalizer runs in root 0
abbrev started : List Line
started = fin 0 0 ∷ line (CLEAR 0) (frees 0 1) (count 0 1 ∷ []) ∷ line (START 0) ok (count 0 2 ∷ []) ∷ []

-- K7 and K8 up to FINISH: the finalizer rescues the cell into root 1
abbrev rescuing : List Line
rescuing = started ++ (then (COPY 1 0) ∷ line FINISH (frees 0 0) (count 0 1 ∷ flags 0 3 ∷ []) ∷ [])

-- K13 to K15 up to FINISH: the finalizer of fin 1 stores its cell in fin 0, from which it then hangs
abbrev stored : List Line
stored =
    fin 0 0 ∷ fin 1 1 ∷ line (CLEAR 1) (frees 0 1) [] ∷ then (START 1) ∷ then (STORE 0 0 1) ∷ line FINISH ok (count 1 1 ∷ flags 1 3 ∷ []) ∷ []

unfoldable pub book : List Example
book =
    -- K1
    record { cells = 1; lines = object 0 0 ∷ line (NEW 1 1 0) (refused_by 7) [] ∷ line (CLEAR 0) (frees 1 0) [] ∷ object 0 0 ∷ [] }
    -- K2
    ∷ of4 (object 0 0 ∷ string 1 1 ∷ then (STORE 0 0 1) ∷ then (CLEAR 1) ∷ line (CLEAR 0) (frees 2 0) [] ∷ [])
    -- K3
    ∷ of4 (object 0 0 ∷ line (COPY 0 0) (frees 0 0) (count 0 1 ∷ []) ∷ [])
    -- K4
    ∷ of4 (object 0 0 ∷ object 1 1 ∷ then (STORE 0 0 1) ∷ line (CLEAR 1) ok (count 1 1 ∷ []) ∷ line (LOAD 0 0 0) (frees 1 0) (kind 0 0 ∷ count 1 1 ∷ []) ∷ [])
    -- K5
    ∷ of4 (object 0 0 ∷ object 1 1 ∷ then (STORE 0 0 1) ∷ then (STORE 1 0 0) ∷ line (CLEAR 0) (frees 0 0) [] ∷ line (CLEAR 1) (frees 0 0) [] ∷ line COLLECT (frees 2 0) [] ∷ [])
    -- K6
    ∷ of4 (started ++ (line FINISH (frees 1 0) [] ∷ []))
    -- K7
    ∷ of4 (rescuing ++ (line (CLEAR 1) (frees 1 0) [] ∷ []))
    -- K8
    ∷ of4 (rescuing ++ (line COLLECT ok (flags 0 1 ∷ []) ∷ line (CLEAR 1) (frees 0 1) [] ∷ []))
    -- K9
    ∷ of4 (fin 0 0 ∷ then (STORE 0 0 0) ∷ then (CLEAR 0) ∷ line COLLECT (frees 0 1) (count 0 2 ∷ []) ∷ then (START 0)
    ∷ line FINISH ok (count 0 1 ∷ flags 0 3 ∷ []) ∷ line COLLECT (frees 1 0) [] ∷ [])
    -- K10
    ∷ of4 (object 0 0 ∷ fin 1 1 ∷ fin 2 2 ∷ then (STORE 0 0 2) ∷ then (STORE 0 1 1) ∷ then (CLEAR 1) ∷ then (CLEAR 2)
    ∷ line (CLEAR 0) (frees 1 2) (queue (2 ∷ 1 ∷ []) ∷ []) ∷ [])
    -- K11
    ∷ of4 (object 0 0 ∷ fin 1 1 ∷ string 2 2 ∷ then (STORE 1 0 2) ∷ then (STORE 0 0 1) ∷ then (CLEAR 2) ∷ then (CLEAR 1)
    ∷ line (CLEAR 0) (frees 1 1) (kind 2 2 ∷ []) ∷ line COLLECT (frees 0 0) (kind 2 2 ∷ []) ∷ [])
    -- K12
    ∷ of4 (line FINISH (refused_by 10) [] ∷ line (START 64) (refused_by 3) [] ∷ [])
    -- K13, "a finalised cell hangs from a queued one and keeps flags 3": it is finalised once
    ∷ of4 (stored ++ (line (CLEAR 0) (frees 0 1) [] ∷ line COLLECT ok (flags 1 3 ∷ queue (0 ∷ []) ∷ []) ∷ then (START 0)
    ∷ line FINISH (frees 2 0) [] ∷ line (START 0) (refused_by 9) [] ∷ []))
    -- K14, nothing is queued when COLLECT begins: the cell was rescued, and is finalised again
    ∷ of4 (stored ++ (line COLLECT ok (flags 1 1 ∷ []) ∷ line (CLEAR 0) (frees 0 1) [] ∷ then (START 0)
    ∷ line FINISH (frees 1 1) (queue (1 ∷ []) ∷ []) ∷ []))
    -- K15, what COLLECT itself queues does not count: fin 0 holds itself, too
    ∷ of4 (stored ++ (then (STORE 0 1 0) ∷ then (CLEAR 0) ∷ line COLLECT (frees 0 1) (flags 1 1 ∷ queue (0 ∷ []) ∷ []) ∷ []))
    ∷ []

-- ---- the claim

unfoldable pub same_numbers : List ℕ → List ℕ → Bool
same_numbers [] [] = true
same_numbers [] (y ∷ m) = false
same_numbers (x ∷ l) [] = false
same_numbers (x ∷ l) (y ∷ m) = eqb x y && same_numbers l m

unfoldable pub holds : Heap → Fact → Bool
holds h (kind c v) = eqb (kind_of h c) v
holds h (count c v) = eqb (count_of h c) v
holds h (flags c v) = eqb (flags_of h c) v
holds h (queue l) = same_numbers (entries h) (map suc l)

unfoldable pub same_answer : Answer → Answer → Bool
same_answer a b = every (eqb a.refused b.refused ∷ eqb a.freed b.freed ∷ eqb a.queued b.queued ∷ eqb a.cell b.cell ∷ [])

-- each call, on the tables as the one before left them, answers so and leaves tables of which the facts hold
unfoldable pub follows : Heap → List Line → Bool
follows h [] = true
follows h (l ∷ rest) =
    same_answer (step h l.call).answer l.answer && every (map (holds (step h l.call).heap) l.facts) && follows (step h l.call).heap rest

-- "K1 to K12 are proved over the rules themselves as a single list under one claim", and K13 to K15 with them
abbrev pub CounterBook : Type 0
CounterBook = every (map (λ (e : Example). follows (fresh e.cells) e.lines) book) ≡ true
