-- `allocation::placing::choose` meets its contract: each refusal is one law of NEW's, and so is that it goes.
-- Assumes nothing.
use Rattle.std.proofs.Common.{arith, ◌∙◌}
use Rattle.laws.specs.Calls.Lowest.{lowest_le}
use Rattle.laws.specs.Calls.Cases.{new_root, new_number, new_taken_lem, new_full, new_goes}
use Rattle.answers.proofs.Refusing.{had_none, gave}
use Rattle.allocation.proofs.Making.{chose_not}
use Rattle.allocation.proofs.placing.choose.Goals as goal

pub returns-in_err-to : goal.returns-in_err-to
returns-in_err-to c =
    let none = c.in_err-to.ensures.value in
    λ h kind roots. chose_not _ _ _ _ (gave _ _ none) _ c.from_residual.ensures.1
    (new_root _ _ _ _ (rw (had_none _ _ none) at c.of.ensures))

pub returns-in_err-shape : goal.returns-in_err-shape
returns-in_err-shape c =
    let none = c.in_err-shape.ensures.value in
    λ h kind roots. chose_not _ _ _ _ (gave _ _ none) _ c.from_residual-in_err-shape.ensures.1
    (new_number _ _ _ _ (rw (had_none _ _ none) at c.of-2.ensures))

pub returns-then-roots-index-ne0 : goal.returns-then-roots-index-ne0
returns-then-roots-index-ne0 c =
    let root = rw c.in_ok-to.ensures.ok_part at c.of.ensures in
    let wanted = rw c.in_ok-shape.ensures.ok_part at c.of-2.ensures in
    λ h kind roots. new_taken_lem _ _ _ _ root.1 wanted.2 (rw (c.index.ensures ∙ root.0, ← roots) at c.if-roots-index-ne0.true)

pub returns-in_err-cell : goal.returns-in_err-cell
returns-in_err-cell c =
    let root = rw c.in_ok-to.ensures.ok_part at c.of.ensures in
    let wanted = rw c.in_ok-shape.ensures.ok_part at c.of-2.ensures in
    let none = c.in_err-cell.ensures.value in
    λ h kind roots.
    let free = rw (had_none _ _ none, ← kind) at c.lowest_free.ensures in
    chose_not _ _ _ _ (gave _ _ none) _ c.from_residual-in_err-cell.ensures.1
    (new_full _ _ _ _ root.1 wanted.2 (rw (c.index.ensures ∙ root.0, ← roots) at c.if-roots-index-ne0.false) (omega (arith, free, lowest_le h.kind)))

pub returns : goal.returns
returns c =
    let root = rw c.in_ok-to.ensures.ok_part at c.of.ensures in
    let wanted = rw c.in_ok-shape.ensures.ok_part at c.of-2.ensures in
    λ h kind roots.
    let free = rw (c.in_ok-cell.ensures.ok_part, ← kind) at c.lowest_free.ensures in
    record {
      goes = new_goes _ _ _ _ root.1 wanted.2 (rw (c.index.ensures ∙ root.0, ← roots) at c.if-roots-index-ne0.false) (λ e. omega (arith, free));
      lowest = free.0;
      in_use = omega (arith, free);
      root = root.0;
      is_root = omega (arith, root);
      shape = (wanted.0, wanted.1);
    }
