-- `audit::possible::cells_fit` meets its contract. The tests of the three columns only keep their sum from passing its end.
-- Assumes nothing.
use native.Mathlib.Omega.{arith}
use Rattle.audit.proofs.Clauses.{cells_fit_lem, cells_not}
use Rattle.audit.proofs.possible.cells_fit.Goals as goal

pub returns-then-most-row : goal.returns-then-most-row
returns-then-most-row c = cells_not c.args.k c.args.row (λ f. omega (arith, f.most, c.if-most-row.true))

pub returns-then-most-row-2 : goal.returns-then-most-row-2
returns-then-most-row-2 c =
    cells_not c.args.k c.args.row (λ f. omega (arith, f.most, c.if-most-row-2.true))

pub returns-then-most-row-3 : goal.returns-then-most-row-3
returns-then-most-row-3 c =
    cells_not c.args.k c.args.row (λ f. omega (arith, f.most, c.if-most-row-3.true))

pub returns-then-cells-k : goal.returns-then-cells-k
returns-then-cells-k c =
    cells_not c.args.k c.args.row (λ f. omega (arith, f.least, c.if-cells-k.true))

pub returns-then-most-cells : goal.returns-then-most-cells
returns-then-most-cells c =
    cells_not c.args.k c.args.row (λ f. omega (arith, f.most, c.if-most-cells.true))

pub returns : goal.returns
returns c =
    cells_fit_lem c.args.k c.args.row (record { least = omega (arith, c.if-cells-k.false); most = omega (arith, c.if-most-cells.false) })
