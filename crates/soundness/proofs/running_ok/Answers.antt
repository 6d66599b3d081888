-- `soundness::running_ok` meets its contract. Each way out is one law of `running_ok`.
-- Assumes nothing.
use mathlib.Core.Path.{sym}
use native.Mathlib.Omega.{arith}
use Rattle.laws.specs.Sound.Tests.{running_none, running_high, running_some}
use Rattle.soundness.proofs.running_ok.Goals as goal

pub returns-then-running-eq0 : goal.returns-then-running-eq0
returns-then-running-eq0 c = sym (running_none _ _ c.if-running-eq0.true)

pub returns-then-from-gt-ROOTS : goal.returns-then-from-gt-ROOTS
returns-then-from-gt-ROOTS c = sym (running_high _ _ (omega arith))

pub returns : goal.returns
returns c = sym (running_some _ _ c.if-running-eq0.false (omega arith))
