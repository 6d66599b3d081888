-- `sweep::queueing::queue_cell` meets its contract. Assumes nothing.
use Prim.Native.Nat.{ℕ}
use native.Mathlib.Omega.{arith}
use mathlib.Core.Path.{ap, sym, ◌∙◌}
use lib.ListN.{get_or}
use Rattle.sweep.proofs.Joins.{queued_none, queued_one, count_rises}
use Rattle.sweep.proofs.queueing.queue_cell.Goals as goal

pub returns-then-not-is_finalizable-clause-queued : goal.returns-then-not-is_finalizable-clause-queued
returns-then-not-is_finalizable-clause-queued c =
    queued_none c.args.cell.0 (sym c.is_finalizable.ensures ∙ c.if-not-is_finalizable.true)

pub overflow_add-tables-2 : goal.overflow_add-tables-2
overflow_add-tables-2 c =
    let rises = count_rises c.args.cell.0 (sym c.is_finalizable.ensures ∙ c.if-not-is_finalizable.false) c.requires.queue_room in
    omega (arith, rises, ap (λ (i : ℕ). get_or c.args.tables.now.count.now i 0) c.index.ensures)

pub returns-clause-queued : goal.returns-clause-queued
returns-clause-queued c =
    queued_one c.args.cell.0 (sym c.is_finalizable.ensures ∙ c.if-not-is_finalizable.false) c.index.ensures
    (omega (arith, ap (λ (i : ℕ). get_or c.args.tables.now.count.now i 0) c.index.ensures)) (omega arith) c.reference.ensures (omega arith)
