-- `finalizers::starting::start` meets its contract: it is refused as `choose` says, or the queue's head comes into the root.
-- Assumes nothing.
use Rattle.std.proofs.Common.{arith, refl, ap, sym}
use Rattle.rules.specs.Heap.{Heap}
use Rattle.answers.proofs.Refusing.{passed_on}
use Rattle.finalizers.proofs.Started.{goes_raisable, start_refused, start_ran}
use Rattle.finalizers.proofs.starting.start.Goals as goal

pub returns-in_err-choose-clause-ran : goal.returns-in_err-choose-clause-ran
returns-in_err-choose-clause-ran c =
    let roots = sym (ap (λ (h : Heap). h.roots) c.shared-now.ensures) in
    let control = sym (ap (λ (h : Heap). h.control) c.shared-now.ensures) in
    start_refused c.requires _ _ (c.in_err-choose.ensures.chosen _ roots control) (omega arith) (passed_on _ _ c.from_residual.ensures.1)

pub incref-requires : goal.incref-requires
incref-requires c =
    let roots = sym (ap (λ (h : Heap). h.roots) c.shared-now.ensures) in
    let control = sym (ap (λ (h : Heap). h.control) c.shared-now.ensures) in
    goes_raisable _ _ c.requires (c.in_ok-choose.ensures.chosen _ roots control)

pub returns-clause-ran : goal.returns-clause-ran
returns-clause-ran c =
    let roots = sym (ap (λ (h : Heap). h.roots) c.shared-now.ensures) in
    let control = sym (ap (λ (h : Heap). h.control) c.shared-now.ensures) in
    start_ran _ _ c.requires (c.in_ok-choose.ensures.chosen _ roots control) (omega arith) c.index-at.ensures c.incref.ensures refl refl c.done.ensures
