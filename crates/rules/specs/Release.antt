-- Document 01, "Taking off", without its guard, by Q-10 of document 02: one reference comes off a cell, and the work list of the cells whose count fell
-- to zero.
-- Assumes nothing: these are definitions.
use Rattle.std.specs.Prelude.{ℕ, zero, suc, List, [], ◌∷◌, ◌++◌, Bool, true, false, ◌&&◌, eqb, get_or, set}
use Rattle.rules.specs.Heap.{Heap, tables, cells, kind_of, flags_of, count_of, slots_of, set_count, wipe, enqueue}

-- the tables in the middle of a call; the work list, oldest first; the cells freed and the cells queued so far, in order
pub record Work : Type 0 where
  pub heap : Heap
  pub pending : List ℕ
  pub freed : List ℕ
  pub queued : List ℕ

unfoldable pub start : Heap → Work
start h = record { heap = h; pending = []; freed = []; queued = [] }

-- one reference more to what r names
unfoldable pub raise : List ℕ → ℕ → List ℕ
raise count zero = count
raise count (suc c) = set count c (suc (get_or count c 0))

unfoldable pub incref : Heap → ℕ → Heap
incref h r = tables h.kind h.flags (raise h.count r) h.slots h.roots h.queue h.control

-- "an object with flags 1"
unfoldable pub finalizable : Heap → ℕ → Bool
finalizable h c = eqb (kind_of h c) 1 && eqb (flags_of h c) 1

-- "At zero, an object with flags 1 joins the end of the queue at once and its count becomes 1. Any other cell joins a work list."
unfoldable pub refzero : Bool → Work → ℕ → Work
refzero true w c = record { heap = set_count (enqueue w.heap c) c 1; pending = w.pending; freed = w.freed; queued = w.queued ++ (c ∷ []) }
refzero false w c = record { heap = set_count w.heap c 0; pending = w.pending ++ (c ∷ []); freed = w.freed; queued = w.queued }

-- "The count falls by 1." From a sound heap no take-off meets a count of zero (`Counts`). A definition has to say something there all the same, and any
-- count would hide the fault: so it says none, but a number that no 16-bit table holds, and no program can take that step
unfoldable pub decremented : ℕ → ℕ
decremented zero = 65536
decremented (suc n) = n

-- the count of c has fallen to the given one
unfoldable pub lower : Work → ℕ → ℕ → Work
lower w c zero = refzero (finalizable w.heap c) w c
lower w c (suc n) = record { heap = set_count w.heap c (suc n); pending = w.pending; freed = w.freed; queued = w.queued }

-- a reference comes off what it names, if anything
unfoldable pub decref : Work → ℕ → Work
decref w zero = w
decref w (suc c) = lower w c (decremented (count_of w.heap c))

unfoldable pub decrefs : Work → List ℕ → Work
decrefs w [] = w
decrefs w (r ∷ l) = decrefs (decref w r) l

-- the same with another work list
unfoldable pub with_pending : Work → List ℕ → Work
with_pending w l = record { heap = w.heap; pending = l; freed = w.freed; queued = w.queued }

-- "then the cell is all zeros", and counts as freed
unfoldable pub retire : Work → ℕ → Work
retire w c = record { heap = wipe w.heap c; pending = w.pending; freed = w.freed ++ (c ∷ []); queued = w.queued }

-- "the cell's slots are taken off from slot 0 to 7, then the cell is all zeros"
unfoldable pub serve : Work → ℕ → List ℕ → Work
serve w c rest = retire (decrefs (with_pending w rest) (slots_of w.heap.slots c)) c

-- "The work list is served oldest first": at most so many cells of it
unfoldable pub drain : ℕ → Work → Work
drain zero w = w
drain (suc fuel) w = elim w.pending [ [] ↦ w | c ∷ rest ↦ drain fuel (serve w c rest) ]

-- a full take-off. "This ends within the call": no cell is served twice, so that N turns are enough
unfoldable pub release : Work → ℕ → Work
release w r = drain (cells w.heap) (decref w r)
