-- `freeing::free_cell` meets its contract. Assumes nothing.
use Prim.Native.Nat.{ℕ}
use native.Mathlib.Omega.{arith}
use mathlib.Core.Path.{ap}
use lib.ListN.{get_or}
use Rattle.rules.specs.Tables.{lent}
use Rattle.freeing.proofs.Freed.{freed}
use Rattle.freeing.proofs.free_cell.Goals as goal

pub returns-clause-freed : goal.returns-clause-freed
returns-clause-freed c =
    let index = c.index-c in
    let empty_slots = c.empty_slots in
    let tables = c.args.tables.now in
    freed (lent tables) _ _ c.args.cell.0 _ _ _ _
    (omega (arith, index.ensures)) (omega arith) (omega arith) (omega arith)
    (omega (arith, ap (λ (i : ℕ). get_or tables.kind.now i 0) index.ensures))
    empty_slots.ensures
