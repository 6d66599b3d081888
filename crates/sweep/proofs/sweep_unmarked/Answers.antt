-- `sweep::sweep_unmarked` meets its contract. Assumes nothing.
use native.Mathlib.Omega.{arith}
use Prim.Native.Nat.{◌*◌}
use mathlib.Core.Path.{◌≡◌}
use lib.ListN.{length}
use Rattle.rules.specs.Lists.{occ}
use Rattle.rules.specs.Words.{bits_of}
use Rattle.rules.specs.Tables.{lent}
use Rattle.sweep.proofs.Searches.{garbage_none}
use Rattle.sweep.proofs.Whole.{rounds_none, unlinked_kind, unlinked_sizes, rounds_join}
use Rattle.sweep.proofs.sweep_unmarked.Goals as goal

pub returns-then-count_bits-clause-swept : goal.returns-then-count_bits-clause-swept
returns-then-count_bits-clause-swept c =
    let marked = c.args.marked.now in
    let used = c.args.used.now in
    let same : occ 1 (bits_of (64 * length marked) marked) ≡ occ 1 (bits_of (64 * length used) used) =
    omega (arith, c.count_bits.ensures, c.if-count_bits.true, c.count_bits-2.ensures) in
    rounds_none (garbage_none c.requires.searchable.0 c.requires.marked_used same)

pub wipe_unmarked-requires : goal.wipe_unmarked-requires
wipe_unmarked-requires c =
    let h = lent c.args.tables.now in
    let off = c.unlink_unmarked.ensures.unlinked in
    record {
      sizes = unlinked_sizes h _ off c.requires.slots_covered c.requires.sizes;
      searchable = rw (unlinked_kind h _ off c.requires.slots_covered) c.requires.searchable;
    }

pub returns-clause-swept : goal.returns-clause-swept
returns-clause-swept c =
    let off = c.unlink_unmarked.ensures.unlinked in
    rounds_join c.args.marked.now off (unlinked_kind (lent c.args.tables.now) _ off c.requires.slots_covered) c.wipe_unmarked.ensures.freed
