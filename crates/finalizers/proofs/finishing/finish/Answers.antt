-- `finalizers::finishing::finish` meets its contract: refused where no root is running, or the rules' writes and two take-offs.
-- Assumes nothing.
use Rattle.std.proofs.Common.{arith, refl}
use mathlib.Core.Logic.{⊎_elim}
use Rattle.rules.specs.declared.refusal.Refusal.TheVariants as Is
use Rattle.rules.specs.Refusals.{is_fresh}
use Rattle.laws.specs.Sound.Facts.{ready_facts}
use Rattle.laws.specs.Calls.Cases.{finish_idle}
use Rattle.laws.specs.Calls.Inner.{inner_refused}
use Rattle.answers.proofs.Refusing.{had_none, gave_up}
use Rattle.rules.proofs.Refusing.{refuses}
use Rattle.finalizers.proofs.Leaving.{leaves, take-ready, finish_ran}
use Rattle.finalizers.proofs.finishing.finish.Goals as goal

pub returns-in_err-running-clause-ran : goal.returns-in_err-running-clause-ran
returns-in_err-running-clause-ran c =
    let none = c.in_err-running.ensures.value in
    let idle = rw (had_none _ _ none) at c.running_root.ensures in
    inner_refused c.requires (unfold is_fresh in refl)
    (finish_idle _ (⊎_elim (λ e. e) (λ e. absurd (omega (arith, (ready_facts c.requires).running_most))) idle))
    (refuses Is.Idle)
    (gave_up _ _ none _ c.from_residual.ensures.1)

pub leave-requires : goal.leave-requires
leave-requires c =
    let run = rw c.in_ok-running.ensures.ok_part at c.running_root.ensures in
    let cell = rw c.in_ok-head.ensures.ok_part at c.of.ensures in
    leaves _ c.requires (λ z. omega (arith, run.0)) cell.0 (omega (arith, run.0))

pub take_off_both-requires : goal.take_off_both-requires
take_off_both-requires c =
    let run = rw c.in_ok-running.ensures.ok_part at c.running_root.ensures in
    take-ready _ c.requires (λ z. omega (arith, run.0)) c.leave.ensures.left (omega (arith, c.index.ensures, run.0))

pub returns-clause-ran : goal.returns-clause-ran
returns-clause-ran c =
    let run = rw c.in_ok-running.ensures.ok_part at c.running_root.ensures in
    finish_ran _ c.requires (λ z. omega (arith, run.0)) c.leave.ensures.left (omega (arith, c.index.ensures, run.0)) c.take_off_both.ensures.finished
