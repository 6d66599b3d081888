-- `csv_text::render::put_last` meets its contract: three texts, one after the other. Assumes nothing.
use Rattle.csv_text.proofs.Written.{wrote_more}
use Rattle.csv_text.proofs.render.put_last.Goals as goal

pub returns : goal.returns
returns c =
    wrote_more _ _ _ _ _ _ _ _ c.put_number-last.ensures (wrote_more _ _ _ _ _ _ _ _ c.put_byte-half.ensures c.put_byte.ensures)
