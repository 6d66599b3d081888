-- Whether tables fit N, and whether a heap is sound, as tests that compute: document 01's rules in the order that reads best as code.
-- Assumes nothing: these are definitions.
use Rattle.std.specs.Prelude.{ℕ, zero, suc, ◌+◌, ◌*◌, List, [], ◌∷◌, Bool, true, false, not, ◌&&◌, cond, leb, ltb, eqb, length, get_or, drop}
use Rattle.rules.specs.Lists.{every, all, below, occ, distinct}
use Rattle.rules.specs.Heap.{Heap, cells, queued, running, kind_of, count_of, slots_of, entries}

-- the lengths of `Sized`
unfoldable pub fits : Heap → Bool
fits h =
    every (leb 1 (cells h) ∷ leb (cells h) 1024 ∷ eqb (length h.flags) (cells h) ∷ eqb (length h.count) (cells h)
    ∷ eqb (length h.slots) (8 * cells h) ∷ eqb (length h.roots) 64 ∷ eqb (length h.queue) (cells h) ∷ eqb (length h.control) 2 ∷ [])

-- rules 1 and 2, of a cell's kind, flags, count and slots
unfoldable pub cell_ok : ℕ → ℕ → ℕ → List ℕ → Bool
cell_ok zero f n s = every (eqb f 0 ∷ eqb n 0 ∷ all (eqb 0) s ∷ [])
cell_ok (suc zero) f n s = leb f 3 && not (eqb f 2)
cell_ok (suc (suc k)) f n s = every (leb k 1 ∷ eqb f 0 ∷ all (eqb 0) s ∷ [])

-- the same of cell c, in the tables kind, flags, count and slots
unfoldable pub cell_at : List ℕ → List ℕ → List ℕ → List ℕ → ℕ → Bool
cell_at k f n s c = cell_ok (get_or k c 0) (get_or f c 0) (get_or n c 0) (slots_of s c)

-- rule 3: a reference is empty or names a used cell
unfoldable pub ref_ok : Heap → ℕ → Bool
ref_ok h zero = true
ref_ok h (suc c) = ltb c (cells h) && not (eqb (kind_of h c) 0)

-- rule 4: an entry names an object with flags 1; of the tables kind and flags
unfoldable pub entry_ok : List ℕ → List ℕ → ℕ → Bool
entry_ok k f zero = false
entry_ok k f (suc c) = eqb (get_or k c 0) 1 && eqb (get_or f c 0) 1

-- rule 5: of the running root and the queue's length
unfoldable pub running_ok : ℕ → ℕ → Bool
running_ok zero n = true
running_ok (suc r) n = ltb r 64 && leb 1 n

-- the references to cell c: from roots, slots and the queue below its length
unfoldable pub refs : Heap → ℕ → ℕ
refs h c = occ (suc c) h.roots + occ (suc c) h.slots + occ (suc c) (entries h)

-- rule 6
unfoldable pub count_ok : Heap → ℕ → Bool
count_ok h c = cond (eqb (kind_of h c) 0) true (eqb (count_of h c) (refs h c) && leb 1 (count_of h c))

unfoldable pub sound : Heap → Bool
sound h =
    every (below (cells h) (cell_at h.kind h.flags h.count h.slots)
    ∷ all (ref_ok h) h.roots ∷ all (ref_ok h) h.slots ∷ all (ref_ok h) h.queue
    ∷ leb (queued h) (cells h)
    ∷ distinct (entries h)
    ∷ all (entry_ok h.kind h.flags) (entries h)
    ∷ all (eqb 0) (drop (queued h) h.queue)
    ∷ running_ok (running h) (queued h)
    ∷ below (cells h) (count_ok h) ∷ [])
