-- `allocation::placing::new` meets its contract: it is refused as `choose` says, or the choice is placed.
-- Assumes nothing.
use Rattle.std.proofs.Common.{arith, ap, sym}
use Rattle.rules.specs.Heap.{Heap}
use Rattle.answers.proofs.Refusing.{passed_on}
use Rattle.allocation.proofs.Making.{new_refused, new_ran, choice_placeable, choice_small}
use Rattle.allocation.proofs.placing.new.Goals as goal

pub returns-in_err-choice-clause-ran : goal.returns-in_err-choice-clause-ran
returns-in_err-choice-clause-ran c =
    let kind = sym (ap (λ (h : Heap). h.kind) c.shared-now.ensures) in
    let roots = sym (ap (λ (h : Heap). h.roots) c.shared-now.ensures) in
    new_refused c.requires _ _ _ _ (c.in_err-choice.ensures _ kind roots) (omega arith) (omega arith) (omega arith) (passed_on _ _ c.from_residual.ensures.1)

pub place-requires : goal.place-requires
place-requires c =
    let kind = sym (ap (λ (h : Heap). h.kind) c.shared-now.ensures) in
    let roots = sym (ap (λ (h : Heap). h.roots) c.shared-now.ensures) in
    choice_placeable c.requires.sized (c.in_ok-choice.ensures _ kind roots)

pub made-requires : goal.made-requires
made-requires c =
    let kind = sym (ap (λ (h : Heap). h.kind) c.shared-now.ensures) in
    let roots = sym (ap (λ (h : Heap). h.roots) c.shared-now.ensures) in
    choice_small c.requires.sized (c.in_ok-choice.ensures _ kind roots)

pub returns-clause-ran : goal.returns-clause-ran
returns-clause-ran c =
    let kind = sym (ap (λ (h : Heap). h.kind) c.shared-now.ensures) in
    let roots = sym (ap (λ (h : Heap). h.roots) c.shared-now.ensures) in
    new_ran c.requires (c.in_ok-choice.ensures _ kind roots) (omega arith) (omega arith) (omega arith) c.place.ensures.placed c.made.ensures
