-- `writes::roots::clear` meets its contract.
-- Assumes nothing.
use native.Mathlib.Omega.{arith}
use Rattle.laws.specs.Calls.Cases.{clear_number}
use Rattle.release.proofs.Written.{writable}
use Rattle.writes.proofs.Found.{inside, outside, number_refused}
use Rattle.writes.proofs.Writes.{clear_ran}
use Rattle.writes.proofs.roots.clear.Goals as goal

pub returns-in_err-to-clause-ran : goal.returns-in_err-to-clause-ran
returns-in_err-to-clause-ran c =
    let no = c.in_err-to.ensures in
    number_refused _ c.requires (clear_number _ _ (omega (arith, outside c.of.ensures no.ok_part)))
    no.ok_part no.value c.from_residual.ensures.1

pub write_root-requires : goal.write_root-requires
write_root-requires c =
    let to = inside c.of.ensures c.in_ok-to.ensures.ok_part in
    writable c.requires (omega (arith, to)) (λ d e. absurd (omega arith))

pub returns-clause-ran : goal.returns-clause-ran
returns-clause-ran c =
    let to = inside c.of.ensures c.in_ok-to.ensures.ok_part in
    clear_ran c.requires (omega (arith, to)) c.write_root.ensures.written
