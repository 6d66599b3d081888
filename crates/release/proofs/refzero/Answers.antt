-- `release::refzero` meets its contract: each way through it is one case of the rules'. Assumes nothing.
use native.Mathlib.Omega.{arith}
use Rattle.release.proofs.Due.{tail_fits, tail_small, named_due, queue_free, work_free}
use Rattle.release.proofs.Step.{queues, lists, plain_kind, plain_flags_lem}
use Rattle.release.proofs.refzero.Goals as goal
use Rattle.release.proofs.refzero.Goals.{else-tables-c-eq1, then-tables-c-eq1+else-tables-c-eq1-2}

pub bounds-tables-length : goal.bounds-tables-length
bounds-tables-length c = queue_free (named_due c.requires.due (λ z. omega (arith, c.requires.some))) c.requires.last

pub returns-then-tables-c-eq1-2-clause-came_off : goal.returns-then-tables-c-eq1-2-clause-came_off
returns-then-tables-c-eq1-2-clause-came_off c =
    queues _ _ _ (tail_fits c.requires.due) _ (λ z. omega (arith, c.requires.some)) c.requires.last
    (omega (arith, c.if-tables-c-eq1-2.true)) (omega (arith, c.if-tables-c-eq1.true))

pub offset_bounds-freed-tail : goal.offset_bounds-freed-tail
offset_bounds-freed-tail c = omega (arith, tail_small c.requires.due)

pub bounds-freed-tail : goal.bounds-freed-tail
bounds-freed-tail c = work_free (named_due c.requires.due (λ z. omega (arith, c.requires.some)))

pub overflow_add-result : goal.overflow_add-result
overflow_add-result c = omega (arith, tail_small c.requires.due)

pub returns-clause-came_off : goal.returns-clause-came_off
returns-clause-came_off c =
    lists _ _ _ (tail_fits c.requires.due) _ (λ z. omega (arith, c.requires.some)) _ _ (omega arith) (omega arith)
    (elim c.if-tables-c-eq1.branch [
      | then-tables-c-eq1+else-tables-c-eq1-2 w ↦ plain_kind _ _ w.if-tables-c-eq1-2.false
      | else-tables-c-eq1 w ↦ plain_flags_lem _ _ w.if-tables-c-eq1.false
    ])
    (work_free (named_due c.requires.due (λ z. omega (arith, c.requires.some))))
