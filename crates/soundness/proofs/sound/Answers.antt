-- `soundness::sound` meets its contract. Each way out is one law of `Whole`.
-- Assumes nothing.
use lib.Dec.{eqb}
use mathlib.Core.Path.{sym, ◌∙◌, ap}
use native.Mathlib.Omega.{arith}
use Rattle.rules.specs.Lists.{all}
use Rattle.tally.proofs.Scratch.{part_rest}
use Rattle.soundness.proofs.Scratch.{scratch}
use Rattle.soundness.proofs.Whole.{by_tally, bad_length, bad_running, bad_rest}
use Rattle.soundness.proofs.sound.Goals as goal

pub returns-then-n-queued : goal.returns-then-n-queued
returns-then-n-queued c =
    sym (bad_length _ (omega (arith, c.if-n-queued.true, c.from-queued.ensures)))

pub returns-then-not-running_ok : goal.returns-then-not-running_ok
returns-then-not-running_ok c = sym (bad_running _ (sym c.running_ok.ensures ∙ c.if-not-running_ok.true))

pub returns-then-not-all_zero : goal.returns-then-not-all_zero
returns-then-not-all_zero c =
    sym
    (bad_rest _
    (rw (← c.from-queued.ensures)
    (ap (all (eqb 0)) (sym (part_rest c.args.tables.queue.now c.from-queued.result)) ∙ sym c.all_zero.ensures ∙ c.if-not-all_zero.true)))

pub tally_ok-requires : goal.tally_ok-requires
tally_ok-requires c =
    rw c.from-queued.ensures
    (scratch _ 1025 c.requires (omega arith) (omega (arith, c.if-n-queued.false, c.from-queued.ensures)))

pub returns : goal.returns
returns c =
    c.tally_ok.ensures
    ∙ rw c.from-queued.ensures
    (sym
    (by_tally _
    c.requires
    (omega (arith, c.if-n-queued.false, c.from-queued.ensures))
    (sym c.running_ok.ensures ∙ c.if-not-running_ok.false)
    (rw (← c.from-queued.ensures)
    (ap (all (eqb 0)) (sym (part_rest c.args.tables.queue.now c.from-queued.result)) ∙ sym c.all_zero.ensures ∙ c.if-not-all_zero.false))))
