-- `release::drain` meets its contract. The loop's invariant is `Serving`; the measure is the number of cells not yet freed. Assumes nothing.
use native.Mathlib.Omega.{arith}
use mathlib.Core.Path.{refl}
use Rattle.std.proofs.Common.{rules}
use Rattle.release.proofs.Serving.{serve_start, end_small, some_named, in_range, cell_stands, cell_due, serve_on, serve_end}
use Rattle.release.proofs.drain.Goals as goal

pub loop-head-init : goal.loop-head-init
loop-head-init c = ((refl, refl, refl, refl, refl, refl, refl), serve_start c.requires)

pub overflow_sub-freed : goal.overflow_sub-freed
overflow_sub-freed c = omega (arith, some_named c.loop-head.invariant.1 c.loop-head-test.true)

-- the way of an entry that names no cell is never gone
pub returns-in_default-clause-drained : goal.returns-in_default-clause-drained
returns-in_default-clause-drained c =
    let outside = c.in_default.ensures in
    absurd (omega (arith, outside, in_range c.loop-head.invariant.1 c.loop-head-test.true))

pub decref_slots-t-requires : goal.decref_slots-t-requires
decref_slots-t-requires c =
    let is = c.in-Some.ensures in
    cell_due c.loop-head.invariant.1 c.loop-head-test.true (omega (arith, is.0))

pub free_cell-requires : goal.free_cell-requires
free_cell-requires c =
    let is = c.in-Some.ensures in
    let off = c.decref_slots-t.ensures in
    cell_stands c.loop-head.invariant.1 c.loop-head-test.true (omega (arith, is.0)) off.came_off off.others_stay

pub loop-head-smaller : goal.loop-head-smaller
loop-head-smaller c = omega (arith, end_small c.loop-head.invariant.1, c.loop-head-test.true)

pub loop-head-preserved : goal.loop-head-preserved
loop-head-preserved c =
    let is = c.in-Some.ensures in
    let off = c.decref_slots-t.ensures in
    let free-cell = c.free_cell in (
      search rules,
      serve_on c.loop-head.invariant.1 c.loop-head-test.true (omega (arith, is.0)) off.came_off off.others_stay free-cell.ensures.freed c.decref_slots-t.auto.freed,
    )

pub returns-clause-drained : goal.returns-clause-drained
returns-clause-drained c = serve_end c.loop-head.invariant.1 (omega (arith, c.loop-head-test.false))
