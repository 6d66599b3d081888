-- `csv_text::reader::comma` meets its contract: the fourth comma and an empty field make a line to skip, any other comma begins a field. Assumes nothing.
use native.Mathlib.Omega.{arith}
use mathlib.Core.Path.{◌∙◌}
use mathlib.Core.Logic.{inl, inr}
use Rattle.csv_text.proofs.Cases.{fourth_field, no_field, next_field_lem}
use Rattle.csv_text.proofs.reader.comma.Goals as goal

pub returns-then-s-ge3 : goal.returns-then-s-ge3
returns-then-s-ge3 c =
    c.skip.ensures ∙ elim c.then-s-ge3.either [
      | inl most ↦ fourth_field _ (omega (arith, most))
      | inr empty ↦ no_field _ (omega (arith, empty.1))
    ]

pub returns : goal.returns
returns c = rw c.start.ensures (next_field_lem _ (omega arith) (λ e. omega arith))
