-- The first bytes are taken.
use Rattle.std.proofs.Common.{take}
use Rattle.auditor.specs.Written.{Told}
use Rattle.auditor.proofs.take.Given as goal

abbrev pub invariant-loop-byte : goal.invariant-loop-byte
invariant-loop-byte g l =
    Told l.initial.p l.initial.room (take l.byte-index l.bytes) l.p l.room (g.W.Write.contents l.initial.output) (g.W.Write.contents l.output)
