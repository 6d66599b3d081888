-- `csv_text::reader::end` meets its contract: a law for each way that the input can end. Assumes nothing.
use native.Mathlib.Omega.{arith}
use mathlib.Core.Path.{◌∙◌, ap}
use mathlib.Core.Logic.{inl, inr}
use Rattle.std.specs.Prelude.{Some}
use Rattle.csv_text.proofs.Cases.{closed_lone_cr, closed_nothing, closed_field, closed_digits}
use Rattle.csv_text.proofs.reader.end.Goals as goal

pub returns-then-s-ne0 : goal.returns-then-s-ne0
returns-then-s-ne0 c = closed_lone_cr _ (λ e. omega arith)

pub returns-then-s-eq0-2 : goal.returns-then-s-eq0-2
returns-then-s-eq0-2 c = closed_nothing _ (omega arith) (omega arith) (omega arith)

pub returns : goal.returns
returns c =
    ap Some c.said.ensures ∙ elim c.else-s-eq0.either [
      | inl digits ↦ closed_digits _ (omega arith) (λ e. omega (arith, digits))
      | inr field ↦ closed_field _ (omega arith) (λ e. omega (arith, field))
    ]
