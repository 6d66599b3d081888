-- `steps::call::numbered` meets its contract: each arm is an entry of the table of calls. Assumes nothing.
use native.Mathlib.Omega.{arith}
use mathlib.Core.Path.{◌≡◌, refl, sym}
use Rattle.rules.specs.Asked.{call_numbered}
use Rattle.laws.specs.Calls.Asked.{numbered_other}
use Rattle.steps.proofs.call.numbered.Goals as goal

pub returns-in-1 : goal.returns-in-1
unfolding call_numbered
returns-in-1 c = rw c.in-1.is refl

pub returns-in-2 : goal.returns-in-2
unfolding call_numbered
returns-in-2 c = rw c.in-2.is refl

pub returns-in-3 : goal.returns-in-3
unfolding call_numbered
returns-in-3 c = rw c.in-3.is refl

pub returns-in-4 : goal.returns-in-4
unfolding call_numbered
returns-in-4 c = rw c.in-4.is refl

pub returns-in-5 : goal.returns-in-5
unfolding call_numbered
returns-in-5 c = rw c.in-5.is refl

pub returns-in-6 : goal.returns-in-6
unfolding call_numbered
returns-in-6 c = rw c.in-6.is refl

pub returns-in-7 : goal.returns-in-7
unfolding call_numbered
returns-in-7 c = rw c.in-7.is refl

pub returns-in-8 : goal.returns-in-8
unfolding call_numbered
returns-in-8 c = rw c.in-8.is refl

pub returns-in-0 : goal.returns-in-0
unfolding call_numbered
returns-in-0 c = let e : c.args.op ≡ 0 = omega arith in rw e refl

pub returns-in-0-2 : goal.returns-in-0-2
returns-in-0-2 c = sym (numbered_other _ _ _ _ (omega arith) (λ e. omega arith) (λ e. omega arith) (λ e. omega arith))
