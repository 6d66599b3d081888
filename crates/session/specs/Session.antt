-- Document 01, "The program": what each line of the input does, and the output line that it gets.
-- Assumes nothing: these are definitions.
use Rattle.std.specs.Prelude.{ℕ, List, [], ◌∷◌, ◌++◌, map, cond, eqb, Ok, Err}
use Rattle.csv_text.specs.Decimal.{rendered}
use Rattle.csv_text.specs.Lines.{Record}
use Rattle.rules.specs.declared.Answer.{Answer}
use Rattle.rules.specs.Heap.{Heap}
use Rattle.rules.specs.Asked.{Asked, call_of, obey, obey_all}
use Rattle.rules.specs.Asked.Asked.{LINE}

-- what a line asks for: "the call's number 1 to 8, then its arguments"; "any other line" is LINE
unfoldable pub asked_of : Record → Asked
asked_of (Ok n) = call_of n.0 n.1 n.2 n.3
asked_of (Err e) = LINE

-- the number at the front of a line, if it has one
unfoldable pub number_of : Record → ℕ
number_of (Ok n) = n.0
number_of (Err e) = 0

-- the output line of call n with this answer: refused 11 "with 0 as its call"
abbrev pub line_of : ℕ → Answer → List ℕ
line_of n a = rendered (cond (eqb a.refused 11) 0 n) a.refused a.freed a.queued a.cell

-- the heap after a line, and the line's answer
abbrev pub after_line : Heap → Record → Heap
after_line h r = (obey h (asked_of r)).heap

abbrev pub line_for : Heap → Record → List ℕ
line_for h r = line_of (number_of r) (obey h (asked_of r)).answer

-- all the output lines, one for each line of the input, each on the heap that the one before left
unfoldable pub session : Heap → List Record → List ℕ
session h [] = []
session h (r ∷ rs) = line_for h r ++ session (after_line h r) rs

-- the heap after all lines
abbrev pub after_all : Heap → List Record → Heap
after_all h rs = obey_all h (map asked_of rs)
