-- `audit::possible::possible_for` meets its contract: its tests are those of three functions, which `Clauses` puts together.
-- Assumes nothing.
use Rattle.std.proofs.Common.{sym, ◌∙◌, arith}
use Rattle.audit.proofs.Clauses.{cells_facts, lost_facts, bad_cells, bad_lost, by_sum}
use Rattle.audit.proofs.possible.possible_for.Goals as goal

pub returns-then-not-cells_fit : goal.returns-then-not-cells_fit
returns-then-not-cells_fit c = bad_cells c.args.k c.args.row (sym c.cells_fit.ensures ∙ c.if-not-cells_fit.true)

pub overflow_add-references : goal.overflow_add-references
overflow_add-references c = omega (arith, cells_facts _ _ (sym c.cells_fit.ensures ∙ c.if-not-cells_fit.false))

pub overflow_add-references-2 : goal.overflow_add-references-2
overflow_add-references-2 c = omega (arith, cells_facts _ _ (sym c.cells_fit.ensures ∙ c.if-not-cells_fit.false))

pub overflow_mul-references-2 : goal.overflow_mul-references-2
overflow_mul-references-2 c = omega (arith, cells_facts _ _ (sym c.cells_fit.ensures ∙ c.if-not-cells_fit.false))

pub overflow_add-references-3 : goal.overflow_add-references-3
overflow_add-references-3 c = omega (arith, cells_facts _ _ (sym c.cells_fit.ensures ∙ c.if-not-cells_fit.false))

pub lost_fits-requires : goal.lost_fits-requires
lost_fits-requires c =
    let cells = cells_facts _ _ (sym c.cells_fit.ensures ∙ c.if-not-cells_fit.false) in
    (omega arith, omega arith)

pub returns-then-not-lost_fits : goal.returns-then-not-lost_fits
returns-then-not-lost_fits c =
    bad_lost c.args.k c.args.row (sym c.cells_fit.ensures ∙ c.if-not-cells_fit.false) (sym c.lost_fits.ensures ∙ c.if-not-lost_fits.true)

pub sum_fits-requires : goal.sum_fits-requires
sum_fits-requires c =
    let cells = cells_facts _ _ (sym c.cells_fit.ensures ∙ c.if-not-cells_fit.false) in
    let lost = lost_facts _ c.args.row (sym c.lost_fits.ensures ∙ c.if-not-lost_fits.false) in
    (c.requires, omega arith, omega arith, omega arith)

pub returns : goal.returns
returns c =
    c.sum_fits.ensures
    ∙ by_sum c.args.k c.args.row (sym c.cells_fit.ensures ∙ c.if-not-cells_fit.false) (sym c.lost_fits.ensures ∙ c.if-not-lost_fits.false)
