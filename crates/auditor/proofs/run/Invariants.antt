-- Reader, arrays, report and what was written are what the input so far makes of an empty report.
use Rattle.auditor.proofs.Running.{Running}
use Rattle.auditor.proofs.run.Given as goal

abbrev pub invariant-loop : goal.invariant-loop
invariant-loop g l =
    Running l.counter l.p l.room (g.R.Read.remaining l.initial.input) (g.R.Read.remaining l.input) (g.W.Write.contents l.initial.output) (g.W.Write.contents l.output)
