-- `sweep::collect` meets its contract: words for 1,024 cells are lent, and all are unmarked. Assumes nothing.
use native.Mathlib.Omega.{arith}
use mathlib.Core.Path.{refl}
use lib.ListN.{length}
use Rattle.laws.specs.Sound.Facts.{ready_facts}
use Rattle.sweep.proofs.Collecting.{collect_ran, collect_roots}
use Rattle.sweep.proofs.Whole.{start_scratch}
use Rattle.sweep.proofs.collect.Goals as goal

pub mark_and_sweep-requires : goal.mark_and_sweep-requires
mark_and_sweep-requires c =
    let unmarked = c.unmarked-marks in
    let sound = ready_facts c.requires in
    record {
      sound_but = sound;
      scratch = start_scratch (length c.args.tables.now.kind.now) _ unmarked.result (omega (arith, sound.fit.some)) sound.fit.small refl unmarked.ensures.value;
    }

pub returns-clause-ran : goal.returns-clause-ran
returns-clause-ran c = collect_ran c.requires c.mark_and_sweep.ensures.collected

pub returns-clause-roots_stay : goal.returns-clause-roots_stay
returns-clause-roots_stay c = collect_roots c.requires c.mark_and_sweep.ensures.collected
