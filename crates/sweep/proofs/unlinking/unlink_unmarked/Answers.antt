-- `sweep::unlinking::unlink_unmarked` meets its contract: the slots of the garbage that the search passed by have come off. Assumes nothing.
use Prim.Native.Nat.{ℕ, suc}
use mathlib.Core.List.{List}
use mathlib.Core.Path.{◌≡◌, refl, subst, ◌∙◌}
use Rattle.std.proofs.Common.{rules}
use Rattle.rules.specs.Tables.{lent}
use Rattle.rules.specs.Collect.{unlink_all}
use Rattle.sweep.proofs.Searches.{search_begins, turn, garbage_ends}
use Rattle.sweep.proofs.Unlinks.{unlinked_start, cell_stands, slots_stand, plain_left, cell_covered, cell_unlinked}
use Rattle.sweep.proofs.unlinking.unlink_unmarked.Goals as goal

pub loop-cell-init : goal.loop-cell-init
loop-cell-init c = (
  (refl, refl, refl, refl, refl, refl, refl),
  0,
  search_begins c.requires.searchable.0 (c.into_iter-cell-iterator.ensures.into_iter_gives ∙ c.open_cells-cell-items.ensures),
  unlinked_start _ _,
)

pub unlink_cell-requires : goal.unlink_cell-requires
unlink_cell-requires c =
    let loop = c.loop-cell in
    let h = lent c.args.tables.now in
    let t = turn c.requires.searchable.0 loop.invariant.2 c.in-Some.ensures.steps in
    let v = c.requires.slots_covered in
    record {
      cell_in_bounds = cell_stands h t v loop.invariant.3;
      cell_in_bounds_2 = slots_stand h t v loop.invariant.3 c.requires.searchable.1;
      plain_slots = plain_left h t v loop.invariant.3 c.requires.plain_slots;
      slots_covered = cell_covered h t v loop.invariant.3;
    }

pub loop-cell-preserved : goal.loop-cell-preserved
loop-cell-preserved c =
    let loop = c.loop-cell in
    let t = turn c.requires.searchable.0 loop.invariant.2 c.in-Some.ensures.steps in (
      search rules,
      suc c.in-Some.cell.0,
      t.behind,
      cell_unlinked (lent c.args.tables.now) t c.requires.slots_covered loop.invariant.3 c.unlink_cell.ensures.unlinked,
    )

pub returns-clause-unlinked : goal.returns-clause-unlinked
returns-clause-unlinked c =
    let loop = c.loop-cell in
    subst (λ (l : List ℕ). lent loop.tables ≡ unlink_all (lent c.args.tables.now) l)
    (garbage_ends c.requires.searchable.0 loop.invariant.2 c.in-None.ensures.steps.0) loop.invariant.3
