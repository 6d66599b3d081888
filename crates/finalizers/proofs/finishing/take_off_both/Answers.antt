-- `finalizers::finishing::take_off_both` meets its contract, with a list and without. Assumes nothing.
use Rattle.std.proofs.Common.{◌+◌, arith}
use Rattle.rules.specs.Tables.{lent}
use Rattle.release.specs.Release.{WorkDone}
use Rattle.rules.specs.Release.{start, release}
use Rattle.release.proofs.Released.{forgotten}
use Rattle.finalizers.proofs.Both.{both_fit, second_ready, size₁, control₂, Works, listed_first, listed_works, unlisted_works, end_small, queue_grows, took_both}
use Rattle.finalizers.proofs.finishing.take_off_both.Goals as goal
use Rattle.finalizers.proofs.finishing.take_off_both.Goals.{After-release_unlisted-more, After-release-middle, After-release-end}

-- what both leave without a list
unlisted : (c : After-release_unlisted-more) →
    let many = c.release_unlisted-many in
    let more = c.release_unlisted-more in
    Works c.requires c.args.freed.now (lent many.new.tables) c.args.freed.now (0 + many.result)
    (lent more.new.tables) c.args.freed.now (0 + many.result + more.result)
unlisted c =
    unlisted_works c.requires c.args.freed.now c.if-freed-tables.true
    c.release_unlisted-many.ensures.counted c.release_unlisted-more.ensures.counted

-- what the first leaves with one
first : (c : After-release-middle) →
    let middle = c.release-middle in
    WorkDone (release (start (lent c.args.tables.now)) c.args.first) (lent middle.new.tables) c.args.freed.now 0 middle.new.freed middle.result
first c =
    listed_first c.requires (omega (arith, c.if-freed-tables.false)) c.release-middle.auto.freed c.release-middle.ensures.listed

-- what both leave with one
listed : (c : After-release-end) →
    let middle = c.release-middle in
    let end = c.release-end in
    Works c.requires c.args.freed.now (lent middle.new.tables) middle.new.freed middle.result (lent end.new.tables) end.new.freed end.result
listed c =
    let middle = c.release-middle in
    let end = c.release-end in
    listed_works c.requires (omega (arith, c.if-freed-tables.false)) middle.ensures.listed end.ensures.listed middle.auto.freed end.auto.freed

pub bounds-tables-0 : goal.bounds-tables-0
bounds-tables-0 c = omega (arith, (both_fit c.requires).control_size)

pub release_unlisted-more-requires : goal.release_unlisted-more-requires
release_unlisted-more-requires c =
    let many = c.release_unlisted-many.ensures.counted in
    forgotten (second_ready c.requires many.heap many.freed)

pub overflow_add-many : goal.overflow_add-many
overflow_add-many c = omega (arith, end_small c.requires (unlisted (goal.at.overflow_add-many c).After-release_unlisted-more))

pub bounds-tables-0-then-freed-tables : goal.bounds-tables-0-then-freed-tables
bounds-tables-0-then-freed-tables c =
    let many = c.release_unlisted-many.ensures.counted in
    omega (arith, control₂ c.requires many.heap many.freed c.release_unlisted-more.ensures.counted.heap)

pub overflow_sub-tables : goal.overflow_sub-tables
overflow_sub-tables c = queue_grows c.requires (unlisted (goal.at.overflow_sub-tables c).After-release_unlisted-more)

pub finished-requires : goal.finished-requires
finished-requires c = omega (arith, end_small c.requires (unlisted (goal.at.finished-requires c).After-release_unlisted-more))

pub returns-then-freed-tables-clause-finished : goal.returns-then-freed-tables-clause-finished
returns-then-freed-tables-clause-finished c =
    let works = unlisted (goal.at.returns-then-freed-tables-clause-finished c).After-release_unlisted-more in
    rw c.finished.ensures (took_both c.requires works _ _ _ _ (omega arith) (omega arith) (omega arith) (omega arith))

pub release-end-requires-clause-releasable : goal.release-end-requires-clause-releasable
release-end-requires-clause-releasable c =
    let done = first (goal.at.release-end-requires-clause-releasable c).After-release-middle in
    second_ready c.requires done.heap (omega (arith, done.many))

pub release-end-requires-clause-kind_in_bounds : goal.release-end-requires-clause-kind_in_bounds
release-end-requires-clause-kind_in_bounds c =
    let middle = c.release-middle in
    let done = first (goal.at.release-end-requires-clause-kind_in_bounds c).After-release-middle in
    omega (arith, c.if-freed-tables.false, middle.auto.freed, size₁ c.requires {d = middle.result} done.heap (omega (arith, done.many)))

pub bounds-tables-0-2 : goal.bounds-tables-0-2
bounds-tables-0-2 c =
    let done = first (goal.at.bounds-tables-0-2 c).After-release-middle in
    omega (arith, control₂ c.requires {d = c.release-middle.result} done.heap (omega (arith, done.many)) c.release-end.ensures.listed.heap)

pub overflow_sub-tables-2 : goal.overflow_sub-tables-2
overflow_sub-tables-2 c = queue_grows c.requires (listed (goal.at.overflow_sub-tables-2 c).After-release-end)

pub finished-requires-2 : goal.finished-requires-2
finished-requires-2 c = omega (arith, end_small c.requires (listed (goal.at.finished-requires-2 c).After-release-end))

pub returns-clause-finished : goal.returns-clause-finished
returns-clause-finished c =
    let works = listed (goal.at.returns-clause-finished c).After-release-end in
    rw c.finished-2.ensures (took_both c.requires works _ _ _ _ (omega arith) (omega arith) (omega arith) (omega arith))
