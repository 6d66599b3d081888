-- `soundness::admission::admit` meets its contract: each way out is one law of `admission`.
-- Assumes nothing.
use mathlib.Core.Path.{sym, ap, ◌∙◌}
use Rattle.laws.specs.Sound.Reflect.{fits_sized}
use Rattle.laws.specs.Calls.Admission.{admission, admission_size, admission_damaged, admission_sound}
use Rattle.soundness.proofs.admission.admit.Goals as goal

pub returns-then-not-fits : goal.returns-then-not-fits
returns-then-not-fits g c = sym (admission_size _ (sym c.fits.ensures ∙ c.if-not-fits.true)) ∙ ap admission c.read-tables.ensures

pub sound-requires : goal.sound-requires
sound-requires g c = fits_sized _ (sym c.fits.ensures ∙ c.if-not-fits.false)

pub returns-then-not-sound : goal.returns-then-not-sound
returns-then-not-sound g c =
    sym (admission_damaged _ (sym c.fits.ensures ∙ c.if-not-fits.false) (sym c.sound.ensures ∙ c.if-not-sound.true))
    ∙ ap admission c.read-tables.ensures

pub returns : goal.returns
returns g c =
    sym (admission_sound _ (sym c.fits.ensures ∙ c.if-not-fits.false) (sym c.sound.ensures ∙ c.if-not-sound.false))
    ∙ ap admission c.read-tables.ensures
