-- `session::taking::take` meets its contract. The loop: the tables are admitted, or not, as they were at the start, and the bytes so far are taken.
-- Assumes nothing.
use mathlib.Core.Path.{◌≡◌}
use lib.ListN.{length}
use Rattle.rules.specs.Refused.{refused}
use Rattle.rules.specs.Tables.{lent, SameTables}
use Rattle.laws.specs.Calls.Admission.{admission}
use Rattle.session.proofs.Underway.{Underway}
use Rattle.session.proofs.taking.take.Given as goal

abbrev pub invariant-loop-byte : goal.invariant-loop-byte
invariant-loop-byte l = record {
  admitted : refused l.admitted ≡ admission (lent l.tables);
  same : SameTables l.initial.tables l.tables;
  room : length l.out ≡ length l.initial.out;
  taken : l.p.taken ≡ l.byte-index;
  underway : Underway l.initial.out (lent l.initial.tables) l.initial.p.reader l.bytes (lent l.tables) l.out l.p;
}
