-- `audit::reports::refusal` meets its contract: MANY, TOTAL, or none.
-- Assumes nothing.
use native.Mathlib.Omega.{arith}
use mathlib.Core.Path.{sym, ◌∙◌}
use Rattle.laws.specs.Audit.Reports.{many, impossible, takes}
use Rattle.audit.proofs.reports.refusal.Goals as goal

pub returns-then-report-ge-HEAPS_MAX : goal.returns-then-report-ge-HEAPS_MAX
returns-then-report-ge-HEAPS_MAX c = omega (arith, many c.args.report (omega (arith, c.if-report-ge-HEAPS_MAX.true)))

pub possible-requires : goal.possible-requires
possible-requires c = omega (arith, c.if-report-ge-HEAPS_MAX.false)

pub returns-then-not-possible : goal.returns-then-not-possible
returns-then-not-possible c =
    let if1 = c.if-report-ge-HEAPS_MAX in
    omega (arith, impossible c.args.report (omega (arith, if1.false)) (sym c.possible.ensures ∙ c.if-not-possible.true))

pub returns : goal.returns
returns c =
    let if1 = c.if-report-ge-HEAPS_MAX in
    omega (arith, takes c.args.report (omega (arith, if1.false)) (sym c.possible.ensures ∙ c.if-not-possible.false))
