-- `audit::possible::sum_fits` meets its contract: its tests are those of `Sum` in `Clauses`.
-- Assumes nothing.
use Rattle.std.proofs.Common.{arith}
use Rattle.std.proofs.lemmas.Int.{ints}
use Rattle.audit.proofs.Clauses.{sum_fit, sum_not}
use Rattle.audit.proofs.possible.sum_fits.Goals as goal

pub returns-then-row-down : goal.returns-then-row-down
returns-then-row-down c = sum_not c.args.k c.args.references c.args.row (λ f. omega (arith, ints))

pub returns-then-up-references : goal.returns-then-up-references
returns-then-up-references c = sum_not c.args.k c.args.references c.args.row (λ f. omega (arith, ints))

pub returns-then-up-row : goal.returns-then-up-row
returns-then-up-row c = sum_not c.args.k c.args.references c.args.row (λ f. omega (arith, ints))

pub returns-then-up-row-2 : goal.returns-then-up-row-2
returns-then-up-row-2 c = sum_not c.args.k c.args.references c.args.row (λ f. omega (arith, ints))

pub returns : goal.returns
returns c =
    sum_fit c.args.k c.args.references c.args.row
    (record { over = omega (arith, ints); under = omega (arith, ints); heaps = omega (arith, ints); left = omega (arith, ints) })
