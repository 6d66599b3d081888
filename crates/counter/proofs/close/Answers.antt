use Rattle.std.proofs.lemmas.Result.{on_ok_weaker}
use Rattle.counter.proofs.Written.{told_last}
use Rattle.counter.proofs.close.Goals as goal

pub returns : goal.returns
returns g c room = on_ok_weaker c.write.result (told_last c.end-p.ensures.ended room) c.write.ensures
