-- `next` of `words::search::Open` meets its contract: the cells that are left are those that `next_open` finds. Assumes nothing.
use native.Mathlib.Omega.{arith}
use mathlib.Core.Path.{sym, ◌∙◌}
use Rattle.std.proofs.Common.{rules}
use Rattle.words.proofs.Left.{left_not_found, left_found}
use Rattle.words.proofs.search.OpenIterator.next.Goals as goal

pub next_open-requires-clause-cells_bound : goal.next_open-requires-clause-cells_bound
next_open-requires-clause-cells_bound c =
    let i = c.self.invariant in
    (omega (arith, i.0), omega (arith, i.1))

pub next_open-requires-clause-base_lt_cells : goal.next_open-requires-clause-base_lt_cells
next_open-requires-clause-base_lt_cells c =
    let i = c.self.invariant in
    (omega (arith, i.3.1.0), omega (arith, i.2))

pub returns-in_err-cell-clause-steps : goal.returns-in_err-cell-clause-steps
returns-in_err-cell-clause-steps c =
    let s = c.self.inside in
    let i = c.self.invariant in
    let none = sym c.self.view_is ∙ left_not_found {rest = s.rest} i.3.1 (c.in_err-cell.ensures i.3.0 i.3.1) in
    rw c.from_residual.ensures (none, none)

pub invariant_of-self : goal.invariant_of-self
invariant_of-self c =
    let i = c.self.invariant in
    let found = c.in_ok-cell.ensures i.3.0 i.3.1 in
    (i.0, i.1, i.2, (_, found.2))

pub returns-clause-steps : goal.returns-clause-steps
returns-clause-steps c =
    let s = c.self.inside in
    let i = c.self.invariant in
    let found = c.in_ok-cell.ensures i.3.0 i.3.1 in
    sym c.self.view_is ∙ left_found {rest = s.rest} i.3.1 {next = c.in_ok-cell.rest} found

pub returns-clause-goes : goal.returns-clause-goes
returns-clause-goes c =
    let steps = returns-clause-steps c in
    search rules
