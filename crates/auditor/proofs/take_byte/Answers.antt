-- The heap goes on, or it is complete and served.
use Rattle.std.proofs.Common.{length, refl, ap, ◌∙◌}
use Rattle.std.proofs.lemmas.Result.{IfOk-weaker}
use Rattle.auditor.proofs.Going.{if_ok_both, onward, turned, still_ready, byte_more, byte_heap, told_advanced}
use Rattle.auditor.proofs.take_byte.Goals as goal

pub returns-then-reader-lt-TABLES-clause-told : goal.returns-then-reader-lt-TABLES-clause-told
returns-then-reader-lt-TABLES-clause-told g c =
    let room = c.args.room.now in
    byte_more c.args.p c.args.byte room (turned room c.feed-reader.new.entries c.feed-reader.new.ends) c.feed-reader.ensures _ _ refl refl
    (still_ready c.feed-reader.ensures c.feed-reader.auto.entries c.feed-reader.auto.ends c.requires.held.ready c.if-reader-lt-TABLES.true)

pub returns-then-reader-lt-TABLES-clause-taken : goal.returns-then-reader-lt-TABLES-clause-taken
returns-then-reader-lt-TABLES-clause-taken g c = told_advanced _ _ _ _ _ _ _ (returns-then-reader-lt-TABLES-clause-told g c)

pub returns-clause-told : goal.returns-clause-told
returns-clause-told g c =
    let room = c.args.room.now in
    let ready = c.requires.held.ready in
    let entries = ap length c.serve.ensures.kept.0 ∙ c.feed-reader.auto.entries ∙ ready.room in
    let ends = ap length c.serve.ensures.kept.1 ∙ c.feed-reader.auto.ends ∙ ready.marks in
    if_ok_both c.serve.result
    (λ q x y. byte_heap c.args.p c.args.byte room (turned room c.feed-reader.new.entries c.feed-reader.new.ends) c.feed-reader.ensures
    (onward c.args.p c.feed-reader.result) q c.serve.new.room _ _ refl refl c.if-reader-lt-TABLES.false entries ends x y)
    c.serve.ensures.taken c.serve.ensures.told

pub returns-clause-taken : goal.returns-clause-taken
returns-clause-taken g c = IfOk-weaker c.serve.result _ _ (λ q x. told_advanced _ _ _ _ _ _ _ x) (returns-clause-told g c)
