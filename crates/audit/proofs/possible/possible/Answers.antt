-- `audit::possible::possible` meets its contract.
-- Assumes nothing.
use native.Mathlib.Omega.{arith}
use mathlib.Core.Path.{◌∙◌}
use Rattle.audit.proofs.Clauses.{more_size, no_more_size}
use Rattle.audit.proofs.possible.possible.Goals as goal

pub returns-then-report-totals : goal.returns-then-report-totals
returns-then-report-totals c = more_size c.args.report (omega (arith, c.if-report-totals.true))

pub returns : goal.returns
returns c =
    let if1 = c.if-report-totals in
    c.possible_for.ensures ∙ no_more_size c.args.report (omega (arith, if1.false))
