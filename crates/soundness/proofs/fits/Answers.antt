-- `soundness::fits` meets its contract. Tables for too few or too many cells are no `Sized` ones.
-- Assumes nothing.
use native.Mathlib.Omega.{arith}
use mathlib.Core.Path.{sym}
use Rattle.laws.specs.Sound.Reflect.{unfit}
use Rattle.soundness.proofs.fits.Goals as goal

pub returns-then-n-lt1 : goal.returns-then-n-lt1
returns-then-n-lt1 c = sym (unfit _ (λ z. omega (arith, z.least)))

pub returns-then-n-gt-CELLS_MAX : goal.returns-then-n-gt-CELLS_MAX
returns-then-n-gt-CELLS_MAX c = sym (unfit _ (λ z. omega (arith, z.most)))
