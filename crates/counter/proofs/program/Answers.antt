use Rattle.std.proofs.lemmas.Result.{on_ok_weaker}
use Rattle.counter.proofs.Running.{with_header}
use Rattle.counter.proofs.program.Goals as goal

pub returns : goal.returns
returns g c = on_ok_weaker c.run.result (with_header _ _ _ _ _ c.header.ensures c.in_ok-write.ensures) c.run.ensures
