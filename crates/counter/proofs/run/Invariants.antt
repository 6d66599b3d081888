-- Tables and room keep their lengths; reader, tables and what was written are what the input so far makes of a fresh heap.
use Rattle.std.proofs.Common.{◌≤◌, length}
use Rattle.rules.specs.Tables.{lent}
use Rattle.counter.proofs.Running.{Running}
use Rattle.counter.proofs.run.Given as goal

abbrev pub invariant-loop : goal.invariant-loop
invariant-loop g l = record {
  room : 65536 ≤ length l.out;
  running : Running l.counter l.reader (lent l.tables)
      (g.R.Read.remaining l.initial.input) (g.R.Read.remaining l.input) (g.W.Write.contents l.initial.output) (g.W.Write.contents l.output);
}
