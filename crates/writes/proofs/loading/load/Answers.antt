-- `writes::loading::load` meets its contract.
-- Assumes nothing.
use native.Mathlib.Omega.{arith}
use mathlib.Core.List.{[]}
use Rattle.laws.specs.Sound.Facts.{ready_facts}
use Rattle.laws.specs.Reach.Used.{slot_used}
use Rattle.laws.specs.Calls.Cases.{load_to, load_object, load_slot, load_empty_lem, load_kind_lem}
use Rattle.release.proofs.Written.{writable}
use Rattle.writes.proofs.Found.{inside, outside, number_refused, object_refused}
use Rattle.writes.proofs.Writes.{load_ran}
use Rattle.writes.proofs.loading.load.Goals as goal

pub returns-in_err-target-clause-ran : goal.returns-in_err-target-clause-ran
returns-in_err-target-clause-ran c =
    let no = c.in_err-target.ensures in
    number_refused _ c.requires (load_to _ _ _ _ (omega (arith, outside c.of.ensures no.ok_part)))
    no.ok_part no.value c.from_residual.ensures.1

pub returns-in_err-holder-clause-ran : goal.returns-in_err-holder-clause-ran
returns-in_err-holder-clause-ran c =
    let no = c.in_err-holder.ensures in
    number_refused _ c.requires (load_object _ _ _ _ (omega (arith, outside c.of-2.ensures no.ok_part)))
    no.ok_part no.value c.from_residual-in_err-holder.ensures.1

pub returns-in_err-at-clause-ran : goal.returns-in_err-at-clause-ran
returns-in_err-at-clause-ran c =
    let no = c.in_err-at.ensures in
    number_refused _ c.requires (load_slot _ _ _ _ (omega (arith, outside c.of-3.ensures no.ok_part)))
    no.ok_part no.value c.from_residual-in_err-at.ensures.1

pub returns-in_err-cell-clause-ran : goal.returns-in_err-cell-clause-ran
returns-in_err-cell-clause-ran c =
    let target = inside c.of.ensures c.in_ok-target.ensures.ok_part in
    let holder = inside c.of-2.ensures c.in_ok-holder.ensures.ok_part in
    let in_Slot = inside c.of-3.ensures c.in_ok-at.ensures.ok_part in
    object_refused c.args.object _ _ c.requires
    (load_empty_lem _ _ _ _ target.1 holder.1 in_Slot.1)
    (load_kind_lem _ _ _ _ target.1 holder.1 in_Slot.1)
    (rw holder.0 at c.in_err-cell.ensures)
    c.from_residual-in_err-cell.ensures.1

pub write_root-requires : goal.write_root-requires
write_root-requires c =
    let target = inside c.of.ensures c.in_ok-target.ensures.ok_part in
    writable c.requires (omega (arith, target)) (slot_used _ [] (ready_facts c.requires) _)

pub returns-clause-ran : goal.returns-clause-ran
returns-clause-ran c =
    let target = inside c.of.ensures c.in_ok-target.ensures.ok_part in
    let holder = inside c.of-2.ensures c.in_ok-holder.ensures.ok_part in
    let in_Slot = inside c.of-3.ensures c.in_ok-at.ensures.ok_part in
    load_ran
    c.requires
    (rw holder.0 at c.in_ok-cell.ensures)
    (omega (arith, target, holder, in_Slot, c.index.ensures, c.index-2.ensures))
    c.write_root.ensures.written
