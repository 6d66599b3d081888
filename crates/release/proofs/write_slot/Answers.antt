-- `release::write_slot` meets its contract: a shared reference comes off at once, and the last one by `take_off`. Assumes nothing.
use Prim.Native.Nat.{ℕ, ◌+◌, ◌*◌}
use native.Mathlib.Omega.{arith}
use mathlib.Core.Path.{◌≡◌, ◌∙◌}
use Rattle.rules.specs.Tables.{lent}
use Rattle.release.specs.Write.{with_roots}
use Rattle.release.proofs.Released.{named}
use Rattle.release.proofs.Writing.{raisable, took_shared, slot_ready, slot_done, slot_any}
use Rattle.release.proofs.write_slot.Goals as goal

-- the entry of the slots table that the code writes
place : {a b c d : ℕ} → a ≡ c → b ≡ d → 8 * a + b ≡ 8 * c + d
place p q = omega arith

pub incref-requires : goal.incref-requires
incref-requires c = raisable (with_roots (lent c.args.tables.now) c.requires.roots) _ c.requires.sound c.requires.used

pub decref_shared-requires : goal.decref_shared-requires
decref_shared-requires c = named (slot_ready c.requires (place c.index.ensures c.index-2.ensures) c.incref.ensures)

pub returns-then-decref_shared-clause-written : goal.returns-then-decref_shared-clause-written
returns-then-decref_shared-clause-written c =
    let at = place c.index.ensures c.index-2.ensures in
    let raised = c.incref.ensures in
    rw c.done.ensures
    (slot_done c.requires at raised
    (took_shared (slot_ready c.requires at raised) c.decref_shared.ensures c.if-decref_shared.true _ _ _ _ (omega arith) (omega arith) (omega arith) (omega arith)))

pub returns-then-decref_shared-clause-any_roots : goal.returns-then-decref_shared-clause-any_roots
returns-then-decref_shared-clause-any_roots c = slot_any _ _ _ _ (returns-then-decref_shared-clause-written c)

pub take_off-requires : goal.take_off-requires
take_off-requires c =
    slot_ready c.requires (place c.index.ensures c.index-2.ensures) (c.decref_shared.ensures.kept c.if-decref_shared.false ∙ c.incref.ensures)

pub returns-clause-written : goal.returns-clause-written
returns-clause-written c =
    let raised = c.decref_shared.ensures.kept c.if-decref_shared.false ∙ c.incref.ensures in
    slot_done c.requires (place c.index.ensures c.index-2.ensures) raised c.take_off.ensures.taken_off

pub returns-clause-any_roots : goal.returns-clause-any_roots
returns-clause-any_roots c = slot_any _ _ _ _ (returns-clause-written c)
