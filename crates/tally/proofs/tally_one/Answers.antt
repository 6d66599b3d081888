-- `tally::tally_one` meets its contract. The ways out: a reference that is lost, and one that is tallied.
-- Assumes nothing.
use native.Mathlib.Omega.{arith}
use Rattle.laws.specs.Sound.Tally.{counters, tallied_in, tallied_over, dangling_over, dangling_under}
use Rattle.tally.proofs.tally_one.Goals as goal

pub returns-then-tally-r : goal.returns-then-tally-r
returns-then-tally-r c = (omega (arith, dangling_over (counters c.args.tally.now) c.args.reference (omega (arith, c.requires.0.some))), tallied_over _ _ (omega arith))

pub overflow_add-tally : goal.overflow_add-tally
overflow_add-tally c = record { fits = c.requires.0.fits16 _ }

pub returns : goal.returns
returns c = (omega (arith, dangling_under (counters c.args.tally.now) c.args.reference (omega arith)), rw c.from-r.ensures (tallied_in _ c.args.reference (omega arith)))
