-- `csv_text::render::put_field` meets its contract: two texts, one after the other. Assumes nothing.
use Rattle.csv_text.proofs.Written.{wrote_more}
use Rattle.csv_text.proofs.render.put_field.Goals as goal

pub returns : goal.returns
returns c = wrote_more _ _ _ _ _ _ _ _ c.put_number-last.ensures c.put_byte.ensures
