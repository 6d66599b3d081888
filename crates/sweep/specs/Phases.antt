-- What each part of COLLECT does to the tables: an equation with the rules' definition. That of a part that is lent one table holds whatever stands in
-- the others.
-- Assumes nothing: these are definitions.
use Rattle.std.specs.Prelude.{ℕ, suc, ◌+◌, ◌*◌, ◌^◌, ◌≤◌, ◌<◌, List, [], ◌∷◌, ◌++◌, map, Bool, true, not, ◌&&◌, cond, ◌≡◌, eqb, length, get_or, take, replicate}
use Rattle.rules.specs.declared.Answer.{Answer}
use Rattle.rules.specs.Lists.{occ, select}
use Rattle.rules.specs.Heap.{Heap, tables, cells, queued, count_of}
use Rattle.rules.specs.Collect.{enqueue_all, unreached_finalizable, kept_marks, lower_all, unlink_all, wipe_all, rescue_all, collect}
use Rattle.rules.specs.Words.{bit_of, marked_of, UsedBits}
use Rattle.rules.specs.Calls.{answers}
use Rattle.laws.specs.Sound.But.{Fit}
use Rattle.laws.specs.Words.Marks.{HasMarks}

-- ---- which cells: an unmarked object with flags 1, an unmarked used cell, a marked cell with flags 3

abbrev pub is_finalizable : List ℕ → List ℕ → ℕ → Bool
is_finalizable kind flags c = eqb (get_or kind c 0) 1 && eqb (get_or flags c 0) 1

abbrev pub is_due : List ℕ → List ℕ → List ℕ → ℕ → Bool
is_due kind flags marks c = is_finalizable kind flags c && eqb (get_or marks c 0) 0

abbrev pub is_garbage : List ℕ → List ℕ → ℕ → Bool
is_garbage kind marks c = not (eqb (get_or kind c 0) 0) && eqb (get_or marks c 0) 0

abbrev pub is_rescued : List ℕ → List ℕ → ℕ → Bool
is_rescued flags marks c = eqb (get_or flags c 0) 3 && eqb (get_or marks c 0) 1

-- all of them, in order of cell number
abbrev pub due_of : List ℕ → List ℕ → List ℕ → List ℕ
due_of kind flags marks = select (is_due kind flags marks) (length kind)

abbrev pub garbage_of : List ℕ → List ℕ → List ℕ
garbage_of kind marks = select (is_garbage kind marks) (length kind)

abbrev pub rescued_of : List ℕ → List ℕ → List ℕ
rescued_of flags marks = select (is_rescued flags marks) (length flags)

-- the cell, if it passes
abbrev pub only : Bool → ℕ → List ℕ
only b c = cond b (c ∷ []) []

-- ---- words

-- words for the used cells, and as many for the marked ones
pub record Searchable (kind used marked : List ℕ) : Type 0 where
  pub some : 0 < length kind
  pub room : length kind ≤ 64 * length used
  pub same : length marked ≡ length used
  pub few : 64 * length used < 2 ^ 63
  pub bits : UsedBits kind used

-- only used cells are marked
abbrev pub MarkedUsed : List ℕ → List ℕ → Type 0
MarkedUsed kind marked = (c : ℕ) → bit_of marked c ≡ 1 → 1 ≤ get_or kind c 0

-- the scratch of a COLLECT on n cells: words for the used ones, whatever stands there, and for marks, all unmarked
pub record Scratch (n : ℕ) (used marks : List ℕ) : Type 0 where
  pub room : n ≤ 64 * length used
  pub same : length (marked_of marks) ≡ length used
  pub few : 64 * length used < 2 ^ 63
  pub unmarked : HasMarks n marks (replicate n 0)

-- ---- queueing

-- the tables fit, the queue has room for the cells l, and their counts may rise
pub record QueueRoom (h : Heap) (l : List ℕ) : Type 0 where
  pub fit : Fit h.kind h.flags h.count h.queue h.control
  pub room : queued h + length l ≤ cells h
  pub small : (c : ℕ) → count_of h c + occ c l < 65536

-- the cells l joined the queue, and were counted
pub record Queued (h : Heap) (l : List ℕ) (after : Heap) (r : ℕ) : Type 0 where
  pub heap : after ≡ enqueue_all h l
  pub many : r ≡ length l

-- ---- sweeping: the first round, the second, and the rescued

-- references l came off their targets' counts
pub record TakenOff (count l count' : List ℕ) : Type 0 where
  pub heap : (k f s t q w : List ℕ) → tables k f count' s t q w ≡ lower_all (tables k f count s t q w) l

-- tables for the same number of cells
pub record Same (h : Heap) : Type 0 where
  pub flags_size : length h.flags ≡ cells h
  pub count_size : length h.count ≡ cells h
  pub slots_size : length h.slots ≡ 8 * cells h

-- `listed` says whether the table for the freed cells has room for so many
pub record Lists (listed : Bool) (many : ℕ) (freed : List ℕ) : Type 0 where
  pub room : listed ≡ true → many ≤ length freed
  pub asked : many ≤ length freed → listed ≡ true

-- The cells l were freed, and their references, in order, joined the list: it ended at `from` in `before`, and ends at r in `list`. That is said of a table
-- that has room for every cell, and nothing of another.
pub record Freed (h : Heap) (l : List ℕ) (after : Heap) (before : List ℕ) (from : ℕ) (list : List ℕ) (r : ℕ) : Type 0 where
  pub heap : after ≡ wipe_all h l
  pub many : r ≡ from + length l
  pub listed : cells h ≤ length before → take r list ≡ take from before ++ map suc l

-- the cells l got flags 1
pub record Restored (flags l flags' : List ℕ) : Type 0 where
  pub heap : (k n s t q w : List ℕ) → tables k flags' n s t q w ≡ rescue_all (tables k flags n s t q w) l

-- the rescued got flags 1, or, where any cells were waiting, none did
pub record Decided (waiting : ℕ) (flags marks flags' : List ℕ) : Type 0 where
  pub restored : Restored flags (cond (eqb waiting 0) (rescued_of flags marks) []) flags'

-- ---- the parts together

-- both markings, and the queueing between them, from marks that are all unmarked
pub record MarkedQueued (h after : Heap) (marks : List ℕ) (r : ℕ) : Type 0 where
  pub heap : after ≡ enqueue_all h (unreached_finalizable h)
  pub marked : HasMarks (cells h) marks (kept_marks h)
  pub many : r ≡ length (unreached_finalizable h)

-- both rounds, over the cells l
abbrev pub rounds : Heap → List ℕ → Heap
rounds h l = wipe_all (unlink_all h l) l

-- both rounds over the garbage, which was counted and listed
pub record Swept (h : Heap) (marks : List ℕ) (after : Heap) (room list : List ℕ) (r : ℕ) : Type 0 where
  pub heap : after ≡ rounds h (garbage_of h.kind marks)
  pub many : r ≡ length (garbage_of h.kind marks)
  pub listed : cells h ≤ length room → take r list ≡ map suc (garbage_of h.kind marks)

-- every table is as the rules' COLLECT leaves it, the list begins with the references of what it freed, and the answer counts what it freed and queued
pub record Collected (h : Heap) (room : List ℕ) (after : Heap) (list : List ℕ) (answer : Answer) : Type 0 where
  pub heap : after ≡ (collect h).heap
  pub listed : cells h ≤ length room → take (length (collect h).freed) list ≡ map suc (collect h).freed
  pub answered : answer ≡ answers 0 (length (collect h).freed) (length (collect h).queued) 0
