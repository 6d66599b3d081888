-- `writes::store_shared` meets its contract: `store` does the STORE that is named, on a copy of the roots.
-- Assumes nothing.
use native.Mathlib.Omega.{arith}
use Rattle.std.proofs.Common.{rules}
use Rattle.writes.proofs.Writes.{store_named}
use Rattle.writes.proofs.store_shared.Goals as goal

pub copy_from_slice-requires : goal.copy_from_slice-requires
copy_from_slice-requires c = omega arith

pub returns : goal.returns
returns c =
    let ran = store_named c.args.object c.args.slot c.args.from (omega arith) c.store.ensures.ran in
    search (rules, ran)
