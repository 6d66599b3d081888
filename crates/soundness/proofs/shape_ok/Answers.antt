-- `soundness::shape_ok` meets its contract. The law is in `Cells`.
-- Assumes nothing.
use Rattle.soundness.proofs.Cells.{shape_code}
use Rattle.soundness.proofs.shape_ok.Goals as goal

pub returns : goal.returns
returns c = shape_code _ _ _
