-- `sweep::collect_shared` meets its contract: `collect` does it, on a copy of the roots. Assumes nothing.
use native.Mathlib.Omega.{arith}
use Rattle.std.proofs.Common.{rules}
use Rattle.sweep.proofs.Collecting.{ran_answered}
use Rattle.sweep.proofs.collect_shared.Goals as goal

pub copy_from_slice-requires : goal.copy_from_slice-requires
copy_from_slice-requires c = omega arith

pub returns : goal.returns
returns c = ran_answered c.collect.result (omega arith) (search rules)
