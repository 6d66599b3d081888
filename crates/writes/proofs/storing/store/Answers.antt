-- `writes::storing::store` meets its contract.
-- Assumes nothing.
use native.Mathlib.Omega.{arith}
use mathlib.Core.List.{[]}
use Rattle.laws.specs.Sound.Facts.{ready_facts}
use Rattle.laws.specs.Reach.Used.{root_used}
use Rattle.laws.specs.Calls.Cases.{store_object, store_slot, store_from, store_empty_lem, store_kind_lem}
use Rattle.release.proofs.Written.{slot_writable}
use Rattle.writes.proofs.Found.{inside, outside, number_refused, object_refused}
use Rattle.writes.proofs.Writes.{store_ran}
use Rattle.writes.proofs.storing.store.Goals as goal

pub returns-in_err-holder-clause-ran : goal.returns-in_err-holder-clause-ran
returns-in_err-holder-clause-ran c =
    let no = c.in_err-holder.ensures in
    number_refused _ c.requires (store_object _ _ _ _ (omega (arith, outside c.of.ensures no.ok_part)))
    no.ok_part no.value c.from_residual.ensures.1

pub returns-in_err-at-clause-ran : goal.returns-in_err-at-clause-ran
returns-in_err-at-clause-ran c =
    let no = c.in_err-at.ensures in
    number_refused _ c.requires (store_slot _ _ _ _ (omega (arith, outside c.of-2.ensures no.ok_part)))
    no.ok_part no.value c.from_residual-in_err-at.ensures.1

pub returns-in_err-source-clause-ran : goal.returns-in_err-source-clause-ran
returns-in_err-source-clause-ran c =
    let no = c.in_err-source.ensures in
    number_refused _ c.requires (store_from _ _ _ _ (omega (arith, outside c.of-3.ensures no.ok_part)))
    no.ok_part no.value c.from_residual-in_err-source.ensures.1

pub returns-in_err-cell-clause-ran : goal.returns-in_err-cell-clause-ran
returns-in_err-cell-clause-ran c =
    let holder = inside c.of.ensures c.in_ok-holder.ensures.ok_part in
    let in_Slot = inside c.of-2.ensures c.in_ok-at.ensures.ok_part in
    let source = inside c.of-3.ensures c.in_ok-source.ensures.ok_part in
    object_refused c.args.object _ _ c.requires
    (store_empty_lem _ _ _ _ holder.1 in_Slot.1 source.1)
    (store_kind_lem _ _ _ _ holder.1 in_Slot.1 source.1)
    (rw holder.0 at c.in_err-cell.ensures)
    c.from_residual-in_err-cell.ensures.1

pub write_slot-requires : goal.write_slot-requires
write_slot-requires c =
    let in_Slot = inside c.of-2.ensures c.in_ok-at.ensures.ok_part in
    slot_writable c.requires c.in_ok-cell.ensures.1 (omega (arith, in_Slot)) (root_used _ [] (ready_facts c.requires) _)

pub returns-clause-ran : goal.returns-clause-ran
returns-clause-ran c =
    let holder = inside c.of.ensures c.in_ok-holder.ensures.ok_part in
    let in_Slot = inside c.of-2.ensures c.in_ok-at.ensures.ok_part in
    let source = inside c.of-3.ensures c.in_ok-source.ensures.ok_part in
    store_ran
    c.requires
    (rw holder.0 at c.in_ok-cell.ensures)
    (omega (arith, holder, in_Slot, source, c.index.ensures))
    c.write_slot.ensures.written
