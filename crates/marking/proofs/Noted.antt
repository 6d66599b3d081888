-- A search through the words of a marking gives the first noted cell.
-- Assumes nothing.
use Rattle.std.specs.Prelude.{ℕ, ◌≤◌, List, Option, Some, None, ◌≡◌}
use Rattle.std.specs.Iterator.{YieldsFirstBy}
use Rattle.std.proofs.Common.{arith, sym, ◌∙◌}
use Rattle.rules.specs.Depth.{noted_between}
use Rattle.rules.specs.Words.{marked_of, noted_of, marks_of}
use Rattle.laws.specs.Words.Marks.{next_noted_word}
use Rattle.numbers.specs.Numbers.{AsCell}
use Rattle.numbers.specs.declared.cell.Cell.{Cell}
use Rattle.words.specs.Search.{open_between}
use Rattle.words.specs.Listed.{first_open, none_open}

pub noted_first : (n from : ℕ) (marks : List ℕ) {left : List ℕ} → from ≤ n → left ≡ open_between (noted_of marks) (marked_of marks) from n
    → (rest : List ℕ) (r : Option Cell) → YieldsFirstBy (λ cell. cell.0) (λ l. l) left r rest → AsCell (noted_between (marks_of n marks) from n) n r
noted_first n from marks l is rest (Some cell) e =
    let first = first_open (noted_of marks) (marked_of marks) from n (sym is ∙ e) in
    let noted = next_noted_word n marks from l in
    (first.0 ∙ noted, omega arith)
noted_first n from marks l is rest None e =
    omega (arith, none_open (noted_of marks) (marked_of marks) from n (sym is ∙ e.0), next_noted_word n marks from l)
