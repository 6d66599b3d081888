-- `writes::roots::copy` meets its contract.
-- Assumes nothing.
use native.Mathlib.Omega.{arith}
use mathlib.Core.List.{[]}
use Rattle.laws.specs.Sound.Facts.{ready_facts}
use Rattle.laws.specs.Reach.Used.{root_used}
use Rattle.laws.specs.Calls.Cases.{copy_to, copy_from}
use Rattle.release.proofs.Written.{writable}
use Rattle.writes.proofs.Found.{inside, outside, number_refused}
use Rattle.writes.proofs.Writes.{copy_ran}
use Rattle.writes.proofs.roots.copy.Goals as goal

pub returns-in_err-target-clause-ran : goal.returns-in_err-target-clause-ran
returns-in_err-target-clause-ran c =
    let no = c.in_err-target.ensures in
    number_refused _ c.requires (copy_to _ _ _ (omega (arith, outside c.of.ensures no.ok_part)))
    no.ok_part no.value c.from_residual.ensures.1

pub returns-in_err-source-clause-ran : goal.returns-in_err-source-clause-ran
returns-in_err-source-clause-ran c =
    let no = c.in_err-source.ensures in
    number_refused _ c.requires (copy_from _ _ _ (omega (arith, outside c.of-2.ensures no.ok_part)))
    no.ok_part no.value c.from_residual-in_err-source.ensures.1

pub write_root-requires : goal.write_root-requires
write_root-requires c =
    let target = inside c.of.ensures c.in_ok-target.ensures.ok_part in
    writable c.requires (omega (arith, target)) (root_used _ [] (ready_facts c.requires) _)

pub returns-clause-ran : goal.returns-clause-ran
returns-clause-ran c =
    let target = inside c.of.ensures c.in_ok-target.ensures.ok_part in
    let source = inside c.of-2.ensures c.in_ok-source.ensures.ok_part in
    copy_ran
    c.requires
    (omega (arith, target, source, c.index.ensures))
    c.write_root.ensures.written
