-- One byte after another.
use Rattle.auditor.proofs.Going.{told_none, told_byte}
use Rattle.auditor.proofs.take.Goals as goal

pub loop-byte-init : goal.loop-byte-init
loop-byte-init g c = told_none _ _ _ c.requires.held.ready

pub loop-byte-preserved : goal.loop-byte-preserved
loop-byte-preserved g c = told_byte _ _ _ _ _ _ _ _ _ _ _ c.loop-byte.invariant c.loop-byte-test.true c.in_ok-p.ensures.told
