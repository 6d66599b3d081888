-- Document 01, "A sound heap": six rules in plain propositions, each under the paper's own sentence.
-- The tests of `Check` say the same and compute; the crate `laws` proves that they agree.
-- Assumes nothing: these are definitions.
use Rattle.std.specs.Prelude.{ℕ, suc, ◌+◌, ◌*◌, ◌≤◌, ◌<◌, cond, ◌⊎◌, ◌≢◌, ◌≡◌, eqb, length}
use Rattle.rules.specs.Lists.{occ}
use Rattle.rules.specs.Heap.{Heap, cells, queued, running, kind_of, flags_of, count_of, slot_of, root_at, queue_at, entries, Used}

-- "All tables are lent 16-bit numbers. N is the number of cells, 1 to 1,024": tables of the lengths that fit N
pub record Sized (h : Heap) : Type 0 where
  pub least : 1 ≤ cells h
  pub most : cells h ≤ 1024
  pub flags : length h.flags ≡ cells h
  pub count : length h.count ≡ cells h
  pub slots : length h.slots ≡ 8 * cells h
  pub roots : length h.roots ≡ 64
  pub queue : length h.queue ≡ cells h
  pub control : length h.control ≡ 2

abbrev pub EmptySlots : Heap → ℕ → Type 0
EmptySlots h c = (j : ℕ) → j < 8 → slot_of h c j ≡ 0

-- "A reference is 0 for empty, or the cell's number plus 1": empty, or it names a used cell
abbrev pub Reference : Heap → ℕ → Type 0
Reference h x = (x ≡ 0) ⊎ ((c : ℕ) × (x ≡ suc c) × Used h c)

-- an entry of the queue that names an object with flags 1
abbrev pub Entry : Heap → ℕ → Type 0
Entry h x = (c : ℕ) × (x ≡ suc c) × (kind_of h c ≡ 1) × (flags_of h c ≡ 1)

-- "plus 1 if it is queued (003: the artificial bump)"
unfoldable pub bump : Heap → ℕ → ℕ
bump h c = cond (eqb (occ (suc c) (entries h)) 0) 0 1

-- "1. Kinds are 0 to 3. A free cell has flags, count and all eight slots 0."
abbrev pub Rule1 : Heap → Type 0
Rule1 h = (c : ℕ) → c < cells h → (kind_of h c ≤ 3) × (kind_of h c ≡ 0 → (flags_of h c ≡ 0) × (count_of h c ≡ 0) × EmptySlots h c)

-- "2. Strings and buffers have flags 0 and empty slots. Objects have flags 0, 1 or 3."
abbrev pub Rule2 : Heap → Type 0
Rule2 h = (c : ℕ) → c < cells h
    → ((kind_of h c ≡ 2) ⊎ (kind_of h c ≡ 3) → (flags_of h c ≡ 0) × EmptySlots h c)
    × (kind_of h c ≡ 1 → (flags_of h c ≡ 0) ⊎ ((flags_of h c ≡ 1) ⊎ (flags_of h c ≡ 3)))

-- "3. Each reference in roots, slots and queue is empty or names a used cell."
abbrev pub Rule3 : Heap → Type 0
Rule3 h = ((i : ℕ) → i < 64 → Reference h (root_at h i))
    × ((c j : ℕ) → c < cells h → j < 8 → Reference h (slot_of h c j))
    × ((i : ℕ) → i < cells h → Reference h (queue_at h i))

-- "4. The queue length is at most N; entries below it are distinct objects with flags 1; entries from it on are 0."
abbrev pub Rule4 : Heap → Type 0
Rule4 h = (queued h ≤ cells h)
    × ((i j : ℕ) → i < j → j < queued h → queue_at h i ≢ queue_at h j)
    × ((i : ℕ) → i < queued h → Entry h (queue_at h i))
    × ((i : ℕ) → queued h ≤ i → i < cells h → queue_at h i ≡ 0)

-- "5. The running root is 0, or 1 to 64 with a queue that isn't empty."
abbrev pub Rule5 : Heap → Type 0
Rule5 h = (running h ≡ 0) ⊎ ((1 ≤ running h) × (running h ≤ 64) × (1 ≤ queued h))

-- "6. Every used cell's count equals the root entries that hold it, plus the slots that hold it, plus 1 if it is queued; and it is at least 1."
abbrev pub Rule6 : Heap → Type 0
Rule6 h = (c : ℕ) → Used h c → (count_of h c ≡ occ (suc c) h.roots + occ (suc c) h.slots + bump h c) × (1 ≤ count_of h c)

pub record Sound (h : Heap) : Type 0 where
  pub rule1 : Rule1 h
  pub rule2 : Rule2 h
  pub rule3 : Rule3 h
  pub rule4 : Rule4 h
  pub rule5 : Rule5 h
  pub rule6 : Rule6 h

-- a heap that every call but FRESH may go by: its tables fit, and it is sound
pub record Ready (h : Heap) : Type 0 where
  pub sized : Sized h
  pub sound : Sound h
