-- `marking::first_noted` meets its contract. Assumes nothing.
use native.Mathlib.Omega.{arith}
use Rattle.marking.proofs.Noted.{noted_first}
use Rattle.marking.proofs.first_noted.Goals as goal

pub returns : goal.returns
returns c =
    let halves = c.split_at.ensures in
    let left = rw (halves.front, halves.back) at c.open_cells.ensures in
    noted_first c.args.cells 0 c.args.marks.now (omega arith) left c.next.new.self c.next.result c.next.ensures.steps
