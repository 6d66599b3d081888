-- `allocation::shape::Shape::of` meets its contract.
-- Assumes nothing.
use Rattle.std.proofs.Common.{arith, sym, ◌∙◌}
use Rattle.laws.specs.Calls.Arguments.{new_ok_of}
use Rattle.allocation.proofs.shape.Shape.of.Goals as goal

pub overflow_cast-result : goal.overflow_cast-result
overflow_cast-result c = omega (arith, new_ok_of _ _ (sym c.makes.ensures ∙ c.if-not-makes.false))

pub overflow_cast-result-2 : goal.overflow_cast-result-2
overflow_cast-result-2 c = omega (arith, new_ok_of _ _ (sym c.makes.ensures ∙ c.if-not-makes.false))
