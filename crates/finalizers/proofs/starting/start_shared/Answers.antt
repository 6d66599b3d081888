-- `finalizers::starting::start_shared` meets its contract: it is refused as `choose` says, or the queue's head comes into the root.
-- Assumes nothing.
use Rattle.std.proofs.Common.{arith, refl}
use Rattle.answers.proofs.Refusing.{passed_on}
use Rattle.finalizers.proofs.Started.{goes_raisable, start_refused, start_ran}
use Rattle.finalizers.proofs.starting.start_shared.Goals as goal

pub returns-in_err-choose : goal.returns-in_err-choose
returns-in_err-choose c = start_refused c.requires _ _ (c.in_err-choose.ensures.chosen _ refl refl) (omega arith) (passed_on _ _ c.from_residual.ensures.1)

pub incref-requires : goal.incref-requires
incref-requires c = goes_raisable _ _ c.requires (c.in_ok-choose.ensures.chosen _ refl refl)

pub returns : goal.returns
returns c = start_ran _ _ c.requires (c.in_ok-choose.ensures.chosen _ refl refl) (omega arith) c.index-at.ensures c.incref.ensures refl refl c.done.ensures
