-- `session::taking::take` meets its contract. The loop: the tables are admitted, or not, as they were at the start, and the bytes so far are taken.
-- Assumes nothing.
use native.Mathlib.Omega.{arith}
use mathlib.Core.Path.{refl, sym, ◌∙◌}
use Rattle.std.proofs.Common.{rules}
use Rattle.session.proofs.Underway.{underway_begin, underway_byte, underway_full, underway_all, took_admission}
use Rattle.session.proofs.taking.take.Goals as goal

pub loop-byte-init : goal.loop-byte-init
loop-byte-init c = record {
  admitted = c.admit-admitted.ensures;
  same = (refl, refl, refl, refl, refl, refl, refl);
  room = refl;
  taken = refl;
  underway = underway_begin _ _ _ _;
}

pub returns-then-out-p-lt-ANSWER_LEN-clause-bytes_taken : goal.returns-then-out-p-lt-ANSWER_LEN-clause-bytes_taken
returns-then-out-p-lt-ANSWER_LEN-clause-bytes_taken c =
    let loop = c.loop-byte.invariant in
    underway_full _ _ _ _ _ _ _ loop.underway (omega (arith, loop.taken, c.loop-byte-test.true)) (omega arith)

pub loop-byte-preserved : goal.loop-byte-preserved
loop-byte-preserved c =
    let loop = c.loop-byte.invariant in
    let byte = rw (sym loop.taken) at c.take_byte-p.ensures.byte_taken in
    record {
      admitted = took_admission byte loop.admitted;
      same = search rules;
      room = c.take_byte-p.auto.out ∙ loop.room;
      taken = omega (arith, byte.count, loop.taken);
      underway =
          underway_byte _ _ _ _ _ _ _ _ _ _ loop.underway
          (omega (arith, loop.taken, c.loop-byte-test.true))
          (omega (arith, c.if-out-p-lt-ANSWER_LEN.false, loop.room, loop.underway.room))
          byte;
    }

pub returns-clause-bytes_taken : goal.returns-clause-bytes_taken
returns-clause-bytes_taken c = underway_all _ _ _ _ _ _ _ c.loop-byte.invariant.underway (omega arith)
