-- The loop of `batch::records::run` stands at a point of the batch: as many records are done as its counter says.
use Rattle.std.proofs.Common.{◌-◌, length}
use Rattle.rules.specs.Tables.{lent, SameTables}
use Rattle.batch.proofs.Progress.{Stands}
use Rattle.batch.proofs.records.run.Given as goal

abbrev pub invariant-loop-i : goal.invariant-loop-i
invariant-loop-i l =
    SameTables l.initial.tables l.tables
    × Stands
    (lent l.initial.tables)
    (record { records = l.records; answers = l.initial.answers; totals = l.initial.totals })
    (record {
      i = l.i;
      left = length l.records - l.i;
      heap = lent l.tables;
      answers = l.answers;
      totals = l.totals;
    })
