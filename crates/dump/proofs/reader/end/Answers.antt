-- `dump::reader::end` meets its contract. Assumes nothing.
use Rattle.dump.specs.Reading.{closed}
use Rattle.dump.proofs.Stepping.{steps_fills}
use Rattle.dump.proofs.reader.end.Goals as goal

pub returns : goal.returns
unfolding closed
returns c = steps_fills c.last_line.ensures c.fill.ensures
