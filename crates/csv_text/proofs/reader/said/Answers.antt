-- `csv_text::reader::said` meets its contract: a law for each answer. Assumes nothing.
use native.Mathlib.Omega.{arith}
use mathlib.Core.Logic.{inl, inr}
use Rattle.csv_text.proofs.Cases.{not_four_fields, last_field_empty, four_numbers}
use Rattle.csv_text.proofs.reader.said.Goals as goal

pub returns-then-s-ne3 : goal.returns-then-s-ne3
returns-then-s-ne3 c =
    elim c.then-s-ne3.either [
      | inl fewer ↦ not_four_fields _ (λ e. omega (arith, fewer))
      | inr empty ↦ last_field_empty _ (omega (arith, empty.1))
    ]

pub returns : goal.returns
returns c = four_numbers _ (omega arith) (λ e. omega arith)
