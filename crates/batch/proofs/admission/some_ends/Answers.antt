-- `batch::admission::some_ends` meets its contract: the largest total passes what is the most that is let in where one of them does.
-- Assumes nothing.
use Prim.Native.Nat.{ℕ, ◌<◌, ◌≤◌}
use native.Mathlib.Omega.{arith}
use mathlib.Core.Path.{◌≡◌, sym, ◌∙◌}
use Rattle.std.specs.Prelude.{ltb}
use Rattle.std.proofs.Math.Decide.{dec_lt}
use Rattle.std.proofs.lemmas.Bool.{lt-ltb, le-ltb}
use Rattle.rules.specs.declared.batch.Totals.{Totals}
use Rattle.rules.specs.Batch.{some_ends}
use Rattle.laws.specs.Calls.Batch.{HasRoom, of_room, no_room}
use Rattle.batch.proofs.admission.some_ends.Goals as goal

decided : (n : ℕ) (t : Totals) {most largest : ℕ} → (most < largest → HasRoom n t → ⊥) → (largest ≤ most → HasRoom n t)
    → ltb most largest ≡ some_ends n t
decided n t {most} {largest} none room = elim (dec_lt most largest) [
  | yes l ↦ lt-ltb most largest l ∙ sym (no_room n t (none l))
  | no l ↦ le-ltb most largest (omega arith) ∙ sym (of_room n t (room (omega arith)))
]

pub returns : goal.returns
returns c =
    decided _ _
    (λ over r. omega (arith, over, r, c.max.ensures, c.max-2.ensures, c.max-3.ensures))
    (λ under. omega (arith, under, c.max.ensures, c.max-2.ensures, c.max-3.ensures))
