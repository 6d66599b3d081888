-- All bytes are taken, since the answers to them have room.
use Rattle.std.proofs.Common.{arith}
use Rattle.session.proofs.GettingOn.{all_taken}
use Rattle.counter.proofs.Written.{told}
use Rattle.counter.proofs.answer.Goals as goal

pub returns-clause-taken : goal.returns-clause-taken
returns-clause-taken g c = all_taken c.take-p.ensures.bytes_taken c.take-p.ensures.written_bound (omega arith)

pub returns-clause-told : goal.returns-clause-told
returns-clause-told g c = told c.take-p.ensures.bytes_taken c.take-p.ensures.written_bound (omega arith) c.in_ok-write.ensures
