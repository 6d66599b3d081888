-- `release::take_off` meets its contract, with a list and without. Assumes nothing.
use Prim.Native.Nat.{ℕ, ◌+◌, ◌≤◌, ◌<◌}
use native.Mathlib.Omega.{arith}
use mathlib.Core.List.{List}
use mathlib.Core.Path.{ap}
use lib.ListN.{length}
use Rattle.rules.specs.Heap.{Heap, cells}
use Rattle.rules.specs.Release.{start, release}
use Rattle.release.specs.Release.{Releasable, WorkListed, WorkCounted, WorkDone}
use Rattle.release.proofs.Released.{fit_of, size_left, control_left, all_few, with_list, without_list}
use Rattle.release.proofs.Writing.{queue_grows, took}
use Rattle.release.proofs.take_off.Goals as goal

-- the table has no room for every cell
unlisted : {h h' : Heap} {r d : ℕ} (l : List ℕ) → Releasable h 0 r → WorkCounted (release (start h) r) h' d → length l < cells h
    → WorkDone (release (start h) r) h' l 0 l (0 + d)
unlisted l p w none =
    let size = ap (λ (v : Heap). cells v) w.heap in
    without_list w (omega (arith, all_few p, w.freed, size, size_left p)) (omega (arith, none, size, size_left p))

-- it has
listed : {h h' : Heap} {r end : ℕ} {l l' : List ℕ} → Releasable h 0 r → WorkListed (release (start h) r) h' l 0 l' end → cells h ≤ length l'
    → WorkDone (release (start h) r) h' l 0 l' end
listed p w room = with_list (omega arith) (omega (arith, ap (λ (v : Heap). cells v) w.heap, size_left p, room)) w

pub bounds-tables-0 : goal.bounds-tables-0
bounds-tables-0 c = omega (arith, (fit_of c.requires).control_size)

pub bounds-tables-0-then-freed-tables : goal.bounds-tables-0-then-freed-tables
bounds-tables-0-then-freed-tables c =
    omega (arith, ap (λ (v : Heap). length v.control) c.release_unlisted-many.ensures.counted.heap, control_left c.requires)

pub overflow_sub-after : goal.overflow_sub-after
overflow_sub-after c =
    queue_grows c.requires (unlisted c.args.freed.now c.requires c.release_unlisted-many.ensures.counted c.if-freed-tables.true)

pub finished-requires : goal.finished-requires
finished-requires c =
    omega (arith, (fit_of c.requires).small, all_few c.requires, c.release_unlisted-many.ensures.counted.freed)

pub returns-then-freed-tables-clause-taken_off : goal.returns-then-freed-tables-clause-taken_off
returns-then-freed-tables-clause-taken_off c =
    rw c.finished.ensures
    (took c.requires (unlisted c.args.freed.now c.requires c.release_unlisted-many.ensures.counted c.if-freed-tables.true) _ _ _ _
    (omega arith) (omega arith) (omega arith) (omega arith))

pub bounds-tables-0-2 : goal.bounds-tables-0-2
bounds-tables-0-2 c = omega (arith, ap (λ (v : Heap). length v.control) c.release-end.ensures.listed.heap, control_left c.requires)

pub overflow_sub-after-2 : goal.overflow_sub-after-2
overflow_sub-after-2 c =
    let release = c.release-end in
    queue_grows c.requires (listed c.requires release.ensures.listed (omega (arith, c.if-freed-tables.false, release.auto.freed)))

pub finished-requires-2 : goal.finished-requires-2
finished-requires-2 c =
    let listed = c.release-end.ensures.listed in
    omega (arith, (fit_of c.requires).small, listed.few, ap (λ (v : Heap). cells v) listed.heap, size_left c.requires)

pub returns-clause-taken_off : goal.returns-clause-taken_off
returns-clause-taken_off c =
    let release = c.release-end in
    rw c.finished-2.ensures
    (took c.requires (listed c.requires release.ensures.listed (omega (arith, c.if-freed-tables.false, release.auto.freed))) _ _ _ _
    (omega arith) (omega arith) (omega arith) (omega arith))
