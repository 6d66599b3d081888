-- `report::columns::put_sum` meets its contract: two texts, one after the other. Assumes nothing.
use mir.Facts.{to_z-of_z}
use Rattle.csv_text.proofs.Written.{wrote_more}
use Rattle.report.proofs.columns.put_sum.Goals as goal

pub returns : goal.returns
returns c =
    wrote_more _ _ _ _ _ _ _ _ (rw (to_z-of_z c.ranges.x) at c.put_signed-digits.ensures) c.put_byte.ensures
