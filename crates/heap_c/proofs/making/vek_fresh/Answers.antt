-- `heap_c::making::vek_fresh` meets its contract: refused where the tables do not fit, or as the function on tables that do.
-- Assumes nothing.
use mathlib.Core.Path.{sym, ap, ◌∙◌}
use Rattle.rules.specs.Check.{fits}
use Rattle.laws.specs.Sound.Reflect.{fits_sized}
use Rattle.laws.specs.Calls.Outer.{fresh_refused}
use Rattle.answers.proofs.Refusing.{refused_by}
use Rattle.heap_c.proofs.making.vek_fresh.Goals as goal

pub returns-then-not-fits : goal.returns-then-not-fits
returns-then-not-fits c =
    fresh_refused (ap fits (sym c.shared.ensures) ∙ sym c.fits.ensures ∙ c.if-not-fits.true) (refused_by c.refuse.ensures)

pub fresh-requires : goal.fresh-requires
fresh-requires c = fits_sized _ (ap fits (sym c.shared.ensures) ∙ sym c.fits.ensures ∙ c.if-not-fits.false)
