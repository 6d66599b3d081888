-- The code's refusals: their numbers, which are those of the paper's table and 14 MANY, and the answer of a call that may be refused.
-- Assumes nothing: these are definitions.
use Rattle.std.specs.Prelude.{ℕ, Result, Ok, Err}
use Rattle.rules.specs.declared.Answer.{Answer}
use Rattle.rules.specs.Calls.{answers}
use Rattle.rules.specs.declared.refusal.Refusal.{Refusal}
use Rattle.rules.specs.declared.refusal.Refusal.TheVariants as Is

abbrev pub number_of : Refusal → ℕ
number_of Is.Size = 1
number_of Is.Damaged = 2
number_of Is.Number = 3
number_of Is.Empty = 4
number_of Is.Kind = 5
number_of Is.Taken = 6
number_of Is.Full = 7
number_of Is.Busy = 8
number_of Is.None = 9
number_of Is.Idle = 10
number_of Is.Line = 11
number_of Is.Total = 12
number_of Is.Many = 14

-- "A refusal changes no table entry and answers freed 0, queued 0, cell 0."
abbrev pub answer_of : Result Answer Refusal → Answer
answer_of (Ok a) = a
answer_of (Err why) = answers (number_of why) 0 0 0

-- the number of a test that a call asks: 0 where it passes
abbrev pub refused : {A : Type 0} → Result A Refusal → ℕ
refused (Ok a) = 0
refused (Err why) = number_of why
