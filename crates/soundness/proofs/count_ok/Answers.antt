-- `soundness::count_ok` meets its contract. The law is in `Cells`.
-- Assumes nothing.
use Rattle.soundness.proofs.Cells.{count_code}
use Rattle.soundness.proofs.count_ok.Goals as goal

pub returns : goal.returns
returns c = count_code _ _ _
