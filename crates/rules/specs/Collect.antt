-- Document 01, "Collecting", with Q-2 of document 02: marking, queueing, two rounds of sweeping, and the rescued.
-- Assumes nothing: these are definitions.
use Rattle.std.specs.Prelude.{ℕ, zero, suc, List, [], ◌∷◌, ◌++◌, map, not, ◌&&◌, cond, eqb, get_or, replicate}
use Rattle.rules.specs.Lists.{select}
use Rattle.rules.specs.Heap.{Heap, cells, queued, kind_of, flags_of, count_of, slots_of, entries, set_count, set_flags, wipe, enqueue}
use Rattle.rules.specs.Release.{Work, finalizable, decremented}
use Rattle.rules.specs.Marking.{mark_from}

-- "Mark everything that roots and queue reach, the running cell included."
unfoldable pub reached_marks : Heap → List ℕ
reached_marks h = mark_from h.slots (replicate (cells h) 0) (h.roots ++ entries h)

-- "every unmarked object with flags 1 .. in order of cell number; this set is fixed before anything further is marked"
unfoldable pub unreached_finalizable : Heap → List ℕ
unreached_finalizable h = select (λ c. finalizable h c && eqb (get_or (reached_marks h) c 0) 0) (cells h)

-- "joins the queue .. its count rising by 1"
unfoldable pub enqueue_all : Heap → List ℕ → Heap
enqueue_all h [] = h
enqueue_all h (c ∷ l) = enqueue_all (set_count (enqueue h c) c (suc (count_of h c))) l

-- "Mark these and what they reach."
unfoldable pub kept_marks : Heap → List ℕ
kept_marks h = mark_from h.slots (reached_marks h) (map suc (unreached_finalizable h))

-- "The unmarked used cells"
unfoldable pub garbage : Heap → List ℕ
garbage h = select (λ c. not (eqb (kind_of h c) 0) && eqb (get_or (kept_marks h) c 0) 0) (cells h)

-- references come off one after the other, "with no queueing and no cascade"
unfoldable pub lower_all : Heap → List ℕ → Heap
lower_all h [] = h
lower_all h (zero ∷ l) = lower_all h l
lower_all h (suc c ∷ l) = lower_all (set_count h c (decremented (count_of h c))) l

-- "first the references of all of them come off their targets' counts"
unfoldable pub unlink_all : Heap → List ℕ → Heap
unlink_all h [] = h
unlink_all h (c ∷ l) = unlink_all (lower_all h (slots_of h.slots c)) l

-- "only after that do all of them become all zeros"
unfoldable pub wipe_all : Heap → List ℕ → Heap
wipe_all h [] = h
wipe_all h (c ∷ l) = wipe_all (wipe h c) l

-- the tables after both rounds
unfoldable pub swept : Heap → Heap
swept h = wipe_all (unlink_all (enqueue_all h (unreached_finalizable h)) (garbage h)) (garbage h)

-- "Each marked cell with flags 3 gets flags 1 again: it was rescued." Document 02, Q-2: "if the queue held anything when COLLECT began, no flags 3
-- become 1 in that COLLECT". Document 003 says why: the queue is "(artificially) treated as a reachability root", so that a mark need not mean a rescue
unfoldable pub rescued : Heap → List ℕ
rescued h = cond (eqb (queued h) 0) (select (λ c. eqb (flags_of (swept h) c) 3 && eqb (get_or (kept_marks h) c 0) 1) (cells h)) []

unfoldable pub rescue_all : Heap → List ℕ → Heap
rescue_all h [] = h
rescue_all h (c ∷ l) = rescue_all (set_flags h c 1) l

unfoldable pub collect : Heap → Work
collect h = record {
  heap = rescue_all (swept h) (rescued h);
  pending = [];
  freed = garbage h;
  queued = unreached_finalizable h;
}
