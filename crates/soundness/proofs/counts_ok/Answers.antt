-- `soundness::counts_ok` meets its contract. The law is in `Folds`.
-- Assumes nothing.
use lib.ListN.{length}
use Rattle.std.proofs.Common.{rules, tests}
use Rattle.soundness.specs.Tests.{count_at}
use Rattle.soundness.proofs.Folds.{asks_all}
use Rattle.soundness.proofs.counts_ok.Goals as goal

pub returns : goal.returns
returns c =
    asks_all _ (count_at c.args.kind.now c.args.count.now c.args.tally.now) (length c.args.kind.now) _ c.fold.ensures.ran
    (λ right k b q call. search (rules, tests))
