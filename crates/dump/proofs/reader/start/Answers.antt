-- `dump::reader::start` meets its contract. Assumes nothing.
use Rattle.std.proofs.Common.{refl}
use Rattle.dump.proofs.Held.{at_start, starts}
use Rattle.dump.proofs.reader.start.Goals as goal

pub returns : goal.returns
returns c = rw (at_start c.default.ensures) (starts _ refl)
