-- `release::write_root` meets its contract: a shared reference comes off at once, and the last one by `take_off`. Assumes nothing.
use native.Mathlib.Omega.{arith}
use mathlib.Core.Path.{◌∙◌}
use Rattle.rules.specs.Tables.{lent}
use Rattle.release.proofs.Released.{named}
use Rattle.release.proofs.Writing.{raisable, took_shared, root_ready, root_done}
use Rattle.release.proofs.write_root.Goals as goal

pub incref-requires : goal.incref-requires
incref-requires c = raisable (lent c.args.tables.now) _ c.requires.sound c.requires.used

pub decref_shared-requires : goal.decref_shared-requires
decref_shared-requires c = named (root_ready c.requires c.index-i.ensures c.incref.ensures)

pub returns-then-decref_shared-clause-written : goal.returns-then-decref_shared-clause-written
returns-then-decref_shared-clause-written c =
    let at = c.index-i.ensures in
    let raised = c.incref.ensures in
    rw c.done.ensures
    (root_done c.requires at raised
    (took_shared (root_ready c.requires at raised) c.decref_shared.ensures c.if-decref_shared.true _ _ _ _ (omega arith) (omega arith) (omega arith) (omega arith)))

pub take_off-requires : goal.take_off-requires
take_off-requires c = root_ready c.requires c.index-i.ensures (c.decref_shared.ensures.kept c.if-decref_shared.false ∙ c.incref.ensures)

pub returns-clause-written : goal.returns-clause-written
returns-clause-written c =
    let raised = c.decref_shared.ensures.kept c.if-decref_shared.false ∙ c.incref.ensures in
    root_done c.requires c.index-i.ensures raised c.take_off.ensures.taken_off
