-- `words::search::next_open` meets its contract: the cells passed are not open, and those from there on are ahead. Assumes nothing.
use native.Mathlib.Omega.{arith}
use mathlib.Core.Path.{◌∙◌}
use Rattle.words.proofs.Ahead.{searched_start, searched_next, searched_end, found_at, found_none, found_left}
use Rattle.words.proofs.search.next_open.Goals as goal

pub loop-bits-init : goal.loop-bits-init
loop-bits-init c = (omega arith, omega arith, λ from left. searched_start left.1)

pub returns-then-cells-base : goal.returns-then-cells-base
returns-then-cells-base c =
    let i = c.loop-bits.invariant in
    λ from left. searched_end (i.2 from left) c.loop-bits-test.true c.args.cells c.if-cells-base.true

pub loop-bits-preserved : goal.loop-bits-preserved
loop-bits-preserved c =
    let i = c.loop-bits.invariant in
    (omega arith, omega arith, λ from left. searched_next (i.2 from left) c.loop-bits-test.true c.open_bits-bits.ensures)

pub returns-in_err-cell : goal.returns-in_err-cell
returns-in_err-cell c =
    let i = c.loop-bits.invariant in
    let past = c.in_err-cell.ensures in
    rw c.from_residual.ensures (λ from left. found_none (i.2 from left) c.loop-bits-test.false i.1 c.args.cells past)

pub returns : goal.returns
returns c =
    let i = c.loop-bits.invariant in
    let cell = c.in_ok-cell.ensures in
    λ from left.
    let searched = i.2 from left in
    let some = c.loop-bits-test.false in
    let at = found_at searched some i.1 c.args.cells (omega (arith, cell)) in
    (cell.0 ∙ at, omega (arith, cell, at), (i.0, rw at at (found_left searched some i.1)))
