-- `soundness::shapes_ok` meets its contract. The law is in `Folds`.
-- Assumes nothing.
use lib.ListN.{length}
use Rattle.std.proofs.Common.{rules, tests}
use Rattle.soundness.specs.Tests.{shape_at}
use Rattle.soundness.proofs.Folds.{asks_all}
use Rattle.soundness.proofs.shapes_ok.Goals as goal

pub returns : goal.returns
returns c =
    asks_all _ (shape_at c.args.kind.now c.args.flags.now c.args.queued.now) (length c.args.kind.now) _ c.fold.ensures.ran
    (λ right k b q call. search (rules, tests))
