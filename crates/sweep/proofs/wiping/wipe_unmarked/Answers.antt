-- `sweep::wiping::wipe_unmarked` meets its contract: the garbage that the search passed by is free, and listed. Assumes nothing.
use Prim.Native.Nat.{suc}
use native.Mathlib.Omega.{arith}
use mathlib.Core.Path.{refl, ◌∙◌}
use lib.ListN.{length}
use Rattle.std.proofs.Common.{rules}
use Rattle.rules.specs.Words.{bits_of}
use Rattle.sweep.proofs.Searches.{search_begins, turn, garbage_ends}
use Rattle.sweep.proofs.Wipes.{lists_on, freed_start, freed_few, as_many, same_left, end_few, cell_freed, all_freed}
use Rattle.sweep.proofs.wiping.wipe_unmarked.Goals as goal

pub loop-cell-init : goal.loop-cell-init
loop-cell-init c = (
  (refl, refl, refl, refl, refl, refl, refl),
  0,
  search_begins c.requires.searchable.0 (c.into_iter-cell-iterator.ensures.into_iter_gives ∙ c.open_cells-cell-items.ensures),
  freed_start _ _,
  refl,
)

pub wipe_cell-end-requires : goal.wipe_cell-end-requires
wipe_cell-end-requires c =
    let loop = c.loop-cell in
    let t = turn c.requires.searchable.0 loop.invariant.2 c.in-Some.ensures.steps in
    record {
      sizes = same_left t loop.invariant.3 c.requires.sizes;
      cell_in_bounds = omega (arith, t.inside, as_many t loop.invariant.3);
      end_le_cell = (omega (arith, end_few t loop.invariant.3), omega (arith, c.requires.searchable.1, as_many t loop.invariant.3));
      lists = lists_on (as_many t loop.invariant.3) loop.invariant.4 c.has_room-listed.ensures;
    }

pub loop-cell-preserved : goal.loop-cell-preserved
loop-cell-preserved c =
    let loop = c.loop-cell in
    let t = turn c.requires.searchable.0 loop.invariant.2 c.in-Some.ensures.steps in (
      search rules,
      suc c.in-Some.cell.0,
      t.behind,
      cell_freed t loop.invariant.3 c.wipe_cell-end.ensures.freed (omega arith) loop.invariant.4,
      c.wipe_cell-end.auto.freed ∙ loop.invariant.4,
    )

pub overflow_cast-result : goal.overflow_cast-result
overflow_cast-result c =
    let loop = c.loop-cell in
    omega (arith, freed_few (bits_of (length c.args.tables.now.kind.now) c.args.marked.now) loop.invariant.3, loop.invariant.2.within, c.requires.searchable.1)

pub returns-clause-freed : goal.returns-clause-freed
returns-clause-freed c =
    let loop = c.loop-cell in
    all_freed loop.invariant.3 (garbage_ends c.requires.searchable.0 loop.invariant.2 c.in-None.ensures.steps.0) (omega arith)
