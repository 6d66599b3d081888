use Rattle.std.proofs.Common.{◌≡◌, refl}
use borrow.Author.Rules.{rules}
use Rattle.rules.specs.Audit.{empty}
use Rattle.auditor.proofs.Running.{running_begin, running_further, running_over}
use Rattle.auditor.proofs.run.Goals as goal

pub loop-init : goal.loop-init
loop-init g c =
    let nought = c.default.ensures in
    let starts : c.default.result ≡ empty = search (rules, nought) in
    running_begin _ _ _ _ c.start.ensures starts refl refl

pub loop-preserved : goal.loop-preserved
loop-preserved g c = running_further _ _ _ _ _ _ _ _ _ _ _ _ c.loop.invariant c.in_ok-next.ensures.told c.in-Some.is

pub returns-in-None : goal.returns-in-None
returns-in-None g c = running_over _ _ _ _ _ _ _ _ _ _ _ c.loop.invariant c.in_ok-next.ensures.told c.in-None.is
