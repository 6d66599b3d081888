-- `release::release_unlisted` meets its contract: a shared reference comes off at once, and otherwise the list is made in room of its own. Assumes nothing.
use Prim.Native.Nat.{ℕ, suc, ◌-◌, ◌≤◌}
use native.Mathlib.Omega.{arith}
use mathlib.Core.Bool.{Bool, false}
use mathlib.Core.List.{List, [], ◌++◌, map}
use mathlib.Core.Path.{◌≡◌, ap}
use lib.ListN.{length, take, replicate, length-replicate}
use Rattle.rules.specs.Heap.{Heap, cells}
use Rattle.rules.specs.Release.{start, finalizable, refzero, drain, release}
use Rattle.release.specs.Release.{Releasable, WorkListed, WorkCounted}
use Rattle.release.specs.Steps.{working, OthersStay, SharedOff, LastToComeOff, CameOff, Drainable}
use Rattle.release.proofs.Due.{last_due, came_off_last}
use Rattle.release.proofs.Step.{counting}
use Rattle.release.proofs.Released.{fit_of, named, size_left, at_once, first_due, drainable, then_drain, counted, counted_none}
use Rattle.release.proofs.release_unlisted.Goals as goal

-- the last reference comes off with a list of its own, in room for every cell
module _ {h : Heap} {r : ℕ} {n : List ℕ} {off : Bool} (d : Releasable h 0 r) (s : SharedOff h.count r n off) (left : off ≡ false) (w : List ℕ) (room : cells h ≤ length w) where
  begins : LastToComeOff (counting h n) w 0 r
  begins = last_due (first_due d w room) s left

  module _ {h' : Heap} {w' : List ℕ} {x : ℕ}
      (e : CameOff (refzero (finalizable (counting h n) (r - 1)) (working (counting h n) []) (r - 1)) h' w 0 w' x)
      (others : OthersStay h h') (same : length w' ≡ length w) where
    goes_on : Drainable h' w' 0 x
    goes_on = drainable d (came_off_last (first_due d w room) s left e) others room same

    ends : {h'' : Heap} {w'' : List ℕ} {end : ℕ}
        → ((pending : List ℕ) → take x w' ≡ take 0 w' ++ map suc pending → WorkListed (drain (cells h') (working h' pending)) h'' w' 0 w'' end)
        → length w'' ≡ length w' → WorkCounted (release (start h) r) h'' end
    ends {h''} {w''} {end} g still =
        let l : WorkListed (release (start h) r) h'' w 0 w'' end = then_drain d (came_off_last (first_due d w room) s left e) others room same g in
        counted (omega (arith, ap (λ (v : Heap). cells v) l.heap, size_left d, still, same, room)) l

small_room : {n : ℕ} → n ≤ 64 → n ≤ length (replicate {A = ℕ} 64 0)
small_room few = omega (arith, length-replicate {A = ℕ} 64 0)

large_room : {n : ℕ} → n ≤ 1024 → n ≤ length (replicate {A = ℕ} 1024 0)
large_room few = omega (arith, length-replicate {A = ℕ} 1024 0)

pub decref_shared-requires : goal.decref_shared-requires
decref_shared-requires c = named c.requires

pub returns-then-decref_shared-clause-counted : goal.returns-then-decref_shared-clause-counted
returns-then-decref_shared-clause-counted c = counted_none (at_once c.requires c.decref_shared.ensures c.if-decref_shared.true)

pub refzero-end-requires : goal.refzero-end-requires
refzero-end-requires c =
    begins c.requires c.decref_shared.ensures c.if-decref_shared.false _ (small_room (omega (arith, c.if-tables-le64.true)))

pub drain-requires : goal.drain-requires
drain-requires c =
    let zero = c.refzero-end in
    goes_on c.requires c.decref_shared.ensures c.if-decref_shared.false (replicate 64 0) (small_room (omega (arith, c.if-tables-le64.true)))
    zero.ensures.came_off zero.ensures.others_stay zero.auto.freed

pub returns-then-tables-le64-clause-counted : goal.returns-then-tables-le64-clause-counted
returns-then-tables-le64-clause-counted c =
    let zero = c.refzero-end in
    ends c.requires c.decref_shared.ensures c.if-decref_shared.false (replicate 64 0) (small_room (omega (arith, c.if-tables-le64.true)))
    zero.ensures.came_off zero.ensures.others_stay zero.auto.freed c.drain.ensures.drained c.drain.auto.freed

pub refzero-end-requires-2 : goal.refzero-end-requires-2
refzero-end-requires-2 c =
    begins c.requires c.decref_shared.ensures c.if-decref_shared.false _ (large_room (fit_of c.requires).small)

pub drain-requires-2 : goal.drain-requires-2
drain-requires-2 c =
    let zero = c.refzero-end-2 in
    goes_on c.requires c.decref_shared.ensures c.if-decref_shared.false (replicate 1024 0) (large_room (fit_of c.requires).small)
    zero.ensures.came_off zero.ensures.others_stay zero.auto.freed

pub returns-clause-counted : goal.returns-clause-counted
returns-clause-counted c =
    let zero = c.refzero-end-2 in
    ends c.requires c.decref_shared.ensures c.if-decref_shared.false (replicate 1024 0) (large_room (fit_of c.requires).small)
    zero.ensures.came_off zero.ensures.others_stay zero.auto.freed c.drain-2.ensures.drained c.drain-2.auto.freed
