-- `sweep::queueing::queue_unmarked` meets its contract: the cells that the search passed by have joined the queue where they are due. Assumes nothing.
use Prim.Native.Nat.{ℕ, suc}
use native.Mathlib.Omega.{arith}
use mathlib.Core.List.{List}
use mathlib.Core.Path.{refl, subst, ◌∙◌}
use Rattle.std.proofs.Common.{rules}
use Rattle.rules.specs.Tables.{lent}
use Rattle.sweep.specs.Phases.{Queued}
use Rattle.sweep.proofs.Searches.{search_begins, turn, due_ends}
use Rattle.sweep.proofs.Joins.{queued_start, cell_stands, cell_room, cell_joins, few_joined}
use Rattle.sweep.proofs.queueing.queue_unmarked.Goals as goal

pub loop-cell-init : goal.loop-cell-init
loop-cell-init c = (
  (refl, refl, refl, refl, refl, refl, refl),
  0,
  search_begins c.requires.searchable (c.into_iter-cell-iterator.ensures.into_iter_gives ∙ c.open_cells-cell-items.ensures),
  queued_start _,
)

pub queue_cell-queued-requires : goal.queue_cell-queued-requires
queue_cell-queued-requires c =
    let loop = c.loop-cell in
    let t = turn c.requires.searchable loop.invariant.2 c.in-Some.ensures.steps in
    record {
      cell_in_bounds = cell_stands t c.requires.queue_room loop.invariant.3;
      queue_room = cell_room t c.requires.queue_room loop.invariant.3;
    }

pub overflow_add-queued : goal.overflow_add-queued
overflow_add-queued c =
    let loop = c.loop-cell in
    let t = turn c.requires.searchable loop.invariant.2 c.in-Some.ensures.steps in
    omega (arith, few_joined t c.requires.queue_room loop.invariant.3 c.queue_cell-queued.ensures.queued)

pub loop-cell-preserved : goal.loop-cell-preserved
loop-cell-preserved c =
    let loop = c.loop-cell in
    let t = turn c.requires.searchable loop.invariant.2 c.in-Some.ensures.steps in (
      search rules,
      suc c.in-Some.cell.0,
      t.behind,
      cell_joins t c.requires.queue_room loop.invariant.3 c.queue_cell-queued.ensures.queued,
    )

pub returns-clause-queued : goal.returns-clause-queued
returns-clause-queued c =
    let loop = c.loop-cell in
    subst (λ (l : List ℕ). Queued (lent c.args.tables.now) l (lent loop.tables) loop.queued)
    (due_ends c.requires.searchable loop.invariant.2 c.in-None.ensures.steps.0 c.args.tables.now.flags.now) loop.invariant.3
