-- `allocation::shape::makes` meets its contract: each arm is one law of `new_ok`.
-- Assumes nothing.
use Rattle.std.proofs.Common.{arith}
use Rattle.laws.specs.Calls.Cases.{new_object, new_none, new_high, new_plain}
use Rattle.allocation.proofs.shape.makes.Goals as goal

pub returns-in-0 : goal.returns-in-0
returns-in-0 c = new_none _ _ c.in-0.is

pub returns-in-1 : goal.returns-in-1
returns-in-1 c = new_object _ _ c.in-1.is

pub returns-then-kind-lt4 : goal.returns-then-kind-lt4
returns-then-kind-lt4 c =
    let other = c.in_default in
    let low = c.if-kind-lt4.true in
    new_plain _ _ (omega arith) (omega arith) (omega arith)

pub returns-else-kind-lt4 : goal.returns-else-kind-lt4
returns-else-kind-lt4 c =
    let high = c.if-kind-lt4.false in
    grind (arith, new_high c.args.kind c.args.finalizer)
