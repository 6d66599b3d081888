-- `soundness::tally_queue` meets its contract. The invariant, `Queueing`: the entries passed name cells, none twice, and are tallied.
-- Assumes nothing.
use lib.ListN.{get_or, set}
use mathlib.Core.Path.{refl, sym, ap}
use native.Mathlib.Omega.{arith}
use Rattle.laws.specs.Lists.Tests.{clash}
use Rattle.soundness.proofs.Queueing.{queueing_begin, unnamed, twice, queueing_turn, queueing_done}
use Rattle.soundness.proofs.tally_queue.Goals as goal

pub loop-r-init : goal.loop-r-init
loop-r-init c = queueing_begin _ _

pub returns-then-r-eq0 : goal.returns-then-r-eq0
returns-then-r-eq0 c = (sym (unnamed _ _ c.loop-r.r-index c.loop-r-test.true (λ b. omega (arith, b.0))), λ t. clash t refl)

pub returns-then-tally-r : goal.returns-then-tally-r
returns-then-tally-r c =
    let loop = c.loop-r in
    (sym (unnamed _ _ loop.r-index c.loop-r-test.true (λ b. omega (arith, b.0, b.1, loop.invariant.is.size))), λ t. clash t refl)

pub returns-then-tally-r-ne0 : goal.returns-then-tally-r-ne0
returns-then-tally-r-ne0 c = (
  sym
      (twice
      c.requires
      c.loop-r.invariant
      c.loop-r-test.true
      (omega arith)
      (omega arith)
      (λ e. omega (arith, ap (λ r. get_or c.loop-r.tally r 0) c.from-r.ensures))),
  λ t. clash t refl,
)

pub loop-r-preserved : goal.loop-r-preserved
loop-r-preserved c =
    queueing_turn
    c.requires
    c.loop-r.invariant
    c.loop-r-test.true
    (omega arith)
    (omega arith) _
    (omega (arith, ap (λ r. get_or c.loop-r.tally r 0) c.from-r.ensures))
    (ap (λ r. set c.loop-r.tally r 1) c.from-r.ensures)

pub returns : goal.returns
returns c = (sym (queueing_done c.loop-r.invariant c.loop-r-test.false).0, λ t. (queueing_done c.loop-r.invariant c.loop-r-test.false).1)
