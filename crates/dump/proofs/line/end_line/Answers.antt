-- `dump::line::end_line` meets its contract: the last field ends, and then the line. Assumes nothing.
use Rattle.dump.proofs.Stepping.{steps_line}
use Rattle.dump.proofs.line.end_line.Goals as goal

pub returns : goal.returns
returns c =
    let entry = c.requires in
    let last_field_lem = c.last_field-whole in
    steps_line entry.unfinished last_field_lem.ensures c.mark.ensures
