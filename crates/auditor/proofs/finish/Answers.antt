-- No heap is left, or one that is served.
use Rattle.std.proofs.Common.{refl}
use Rattle.std.proofs.lemmas.Result.{IfOk-weaker, on_ok_weaker}
use Rattle.auditor.proofs.Going.{onward, turned, end_none, end_heap, left_none, left_heap}
use Rattle.auditor.proofs.finish.Goals as goal

pub returns-then-reader-lt-TABLES-clause-taken : goal.returns-then-reader-lt-TABLES-clause-taken
returns-then-reader-lt-TABLES-clause-taken g c =
    let room = c.args.room.now in
    end_none c.args.p room (turned room c.end-reader.new.entries c.end-reader.new.ends) c.end-reader.ensures (onward c.args.p c.end-reader.result) refl
    c.if-reader-lt-TABLES.true

pub returns-then-reader-lt-TABLES-clause-told : goal.returns-then-reader-lt-TABLES-clause-told
returns-then-reader-lt-TABLES-clause-told g c =
    let room = c.args.room.now in
    left_none c.args.p room (turned room c.end-reader.new.entries c.end-reader.new.ends) c.end-reader.ensures _ c.if-reader-lt-TABLES.true

pub returns-clause-taken : goal.returns-clause-taken
returns-clause-taken g c =
    let room = c.args.room.now in
    IfOk-weaker c.serve.result _ _
    (λ q x. end_heap c.args.p room (turned room c.end-reader.new.entries c.end-reader.new.ends) c.end-reader.ensures
    (onward c.args.p c.end-reader.result) q refl refl c.if-reader-lt-TABLES.false x)
    c.serve.ensures.taken

pub returns-clause-told : goal.returns-clause-told
returns-clause-told g c =
    let room = c.args.room.now in
    on_ok_weaker c.serve.result
    (left_heap c.args.p room (turned room c.end-reader.new.entries c.end-reader.new.ends) c.end-reader.ensures
    (onward c.args.p c.end-reader.result) _ _ refl refl c.if-reader-lt-TABLES.false)
    c.serve.ensures.told
