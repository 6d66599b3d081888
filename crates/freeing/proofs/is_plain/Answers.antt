-- `freeing::is_plain` meets its contract. Assumes nothing.
use native.Mathlib.Omega.{arith}
use Rattle.freeing.proofs.Freed.{is_plain, not_plain}
use Rattle.freeing.proofs.is_plain.Goals as goal

pub returns-then-kind-eq2 : goal.returns-then-kind-eq2
returns-then-kind-eq2 c = is_plain _ (omega (arith, c.if-kind-eq2.true)) (omega (arith, c.if-kind-eq2.true))

pub returns-then-kind-eq3 : goal.returns-then-kind-eq3
returns-then-kind-eq3 c = is_plain _ (omega (arith, c.if-kind-eq3.true)) (omega (arith, c.if-kind-eq3.true))

pub returns : goal.returns
returns c = not_plain _ (λ low high. omega (arith, c.if-kind-eq2.false, c.if-kind-eq3.false))
