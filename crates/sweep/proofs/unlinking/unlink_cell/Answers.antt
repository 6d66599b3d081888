-- `sweep::unlinking::unlink_cell` meets its contract: the first `k` slots have come off, and the next is counted still. Assumes nothing.
use Prim.Native.Nat.{ℕ}
use native.Mathlib.Omega.{arith}
use mathlib.Core.Path.{refl, ap, ◌∙◌}
use lib.ListN.{get_or}
use Rattle.std.proofs.Common.{rules}
use Rattle.rules.specs.Heap.{Heap, slots_of}
use Rattle.rules.specs.Tables.{lent}
use Rattle.sweep.proofs.Lowers.{taken_off_start, taken_off_next, covered_next, taken_off_all}
use Rattle.sweep.proofs.Unlinks.{with_count, unlinked_plain, unlinked_one, covered_one}
use Rattle.sweep.proofs.unlinking.unlink_cell.Goals as goal

pub returns-then-tables-c-gt1-clause-unlinked : goal.returns-then-tables-c-gt1-clause-unlinked
returns-then-tables-c-gt1-clause-unlinked c =
    let at = ap (λ (i : ℕ). get_or c.args.tables.now.kind.now i 0) c.index-c.ensures in
    unlinked_plain (lent c.args.tables.now) c.args.cell.0 c.requires.plain_slots (omega (arith, at, c.if-tables-c-gt1.true))

pub loop-k-init : goal.loop-k-init
loop-k-init c = ((refl, refl, refl, refl, refl, refl, refl), omega arith, refl, taken_off_start (slots_of c.args.tables.now.slots.now c.args.cell.0))

pub lower-requires : goal.lower-requires
lower-requires c =
    let loop = c.loop-k in
    covered_next c.args.tables.now.slots.now (ap (λ (g : Heap). g.slots) loop.invariant.2) c.args.cell.0 loop.k _ c.requires.cell_in_bounds_2 (omega arith)
    (omega (arith, c.index-c.ensures)) (covered_one (lent c.args.tables.now) c.args.cell.0 c.requires.slots_covered) loop.invariant.3

pub loop-k-preserved : goal.loop-k-preserved
loop-k-preserved c =
    let loop = c.loop-k in (
      search rules,
      omega arith,
      ap (λ (g : Heap). with_count g c.lower.new.count) loop.invariant.2,
      taken_off_next c.args.tables.now.slots.now (ap (λ (g : Heap). g.slots) loop.invariant.2) c.args.cell.0 loop.k _ c.requires.cell_in_bounds_2 (omega arith)
          (omega (arith, c.index-c.ensures)) loop.invariant.3 c.lower.ensures,
    )

pub returns-clause-unlinked : goal.returns-clause-unlinked
returns-clause-unlinked c =
    let loop = c.loop-k in
    loop.invariant.2 ∙ unlinked_one (lent c.args.tables.now) c.args.cell.0
    (taken_off_all c.args.tables.now.slots.now c.args.cell.0 loop.k (omega arith) loop.invariant.3)
