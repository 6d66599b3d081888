-- `audit::possible::lost_fits` meets its contract. The first test only keeps the sum from passing its end.
-- Assumes nothing.
use native.Mathlib.Omega.{arith}
use Rattle.audit.proofs.Clauses.{lost_fit, lost_not}
use Rattle.audit.proofs.possible.lost_fits.Goals as goal

pub returns-then-references-row : goal.returns-then-references-row
returns-then-references-row c = lost_not c.args.references c.args.row (omega (arith, c.if-references-row.true))

pub returns-then-references-row-2 : goal.returns-then-references-row-2
returns-then-references-row-2 c =
    lost_not c.args.references c.args.row (omega (arith, c.if-references-row-2.true))

pub returns : goal.returns
returns c =
    lost_fit c.args.references c.args.row (omega (arith, c.if-references-row-2.false))
