-- `batch::records::run` meets its contract: each record's turn leads on, and at the end stands what the batch leaves.
use Rattle.std.proofs.Common.{◌-◌, ◌+◌, length, arith}
use Rattle.batch.proofs.Progress.{can_raise_by, turn_by, finish}
use Rattle.batch.proofs.records.run.Goals as goal

pub raise-requires : goal.raise-requires
raise-requires c = can_raise_by _ _ _ c.loop-i.invariant.1 c.loop-i-test.true c.obey-a.ensures.obeyed

pub loop-i-preserved : goal.loop-i-preserved
loop-i-preserved c = (
  search (c.loop-i.invariant.0, c.obey-a.ensures.same),
  turn_by
      _ _ _
      c.loop-i.invariant.1
      c.loop-i-test.true
      c.obey-a.ensures.obeyed
      (length c.args.records.now - (c.loop-i.i + 1))
      (omega arith)
      c.raise.ensures,
)

pub returns-clause-all_ran : goal.returns-clause-all_ran
returns-clause-all_ran c = finish _ _ _ c.loop-i.invariant.1 c.loop-i-test.false
