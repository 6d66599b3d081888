-- A heap that is sound but for references that are counted and stand in no table: what stands in the middle of a call.
-- `SoundBut h []` is a sound heap on tables that fit. The facts hold for every cell number, since a table reads as 0 beyond its end.
-- Assumes nothing.
use Rattle.std.specs.Prelude.{ℕ, suc, ◌+◌, ◌*◌, ◌≤◌, ◌<◌, List, ◌≢◌, ◌≡◌, length, get_or, take}
use Rattle.std.proofs.Math.Decide.{ℕ_discrete}
use Rattle.std.proofs.Common.{arith}
use Rattle.rules.specs.Lists.{occ}
use Rattle.rules.specs.Heap.{Heap, queued, running, kind_of, count_of, entries}

-- the lengths of the tables that a take-off reads
pub record Fit (kind flags count queue control : List ℕ) : Type 0 where
  pub some : 1 ≤ length kind
  pub small : length kind ≤ 1024
  pub flags_size : length flags ≡ length kind
  pub count_size : length count ≡ length kind
  pub queue_size : length queue ≡ length kind
  pub control_size : length control ≡ 2

-- tables of the same lengths fit as well
pub refit : {k f n q t k' f' n' q' t' : List ℕ} → length k' ≡ length k → length f' ≡ length f → length n' ≡ length n → length q' ≡ length q → length t' ≡ length t
    → Fit k f n q t → Fit k' f' n' q' t'
refit ek ef en eq et s = record {
  some = omega arith;
  small = omega arith;
  flags_size = omega arith;
  count_size = omega arith;
  queue_size = omega arith;
  control_size = omega arith;
}

-- the queue's entries, of the two tables that hold them
abbrev pub entries_of : List ℕ → List ℕ → List ℕ
entries_of queue control = take (get_or control 0 0) queue

-- rule 4
pub record QueueOk (kind flags queue control : List ℕ) : Type 0 where
  pub within : get_or control 0 0 ≤ length kind
  pub once : (x : ℕ) → occ x (entries_of queue control) ≤ 1
  pub none_empty : occ 0 (entries_of queue control) ≡ 0
  pub object : (c : ℕ) → 1 ≤ occ (suc c) (entries_of queue control) → get_or kind c 0 ≡ 1
  pub wanting : (c : ℕ) → 1 ≤ occ (suc c) (entries_of queue control) → get_or flags c 0 ≡ 1
  pub rest : (i : ℕ) → get_or control 0 0 ≤ i → get_or queue i 0 ≡ 0

-- of rule 2: cells of kinds from 2 on, by rule 1 strings and buffers, have empty slots; of the tables kind and slots
abbrev pub PlainSlots : List ℕ → List ℕ → Type 0
PlainSlots kind slots = (c k : ℕ) → k < 8 → 2 ≤ get_or kind c 0 → get_or slots (8 * c + k) 0 ≡ 0

-- rules 1 and 2, but for the counts; of the tables kind, flags and slots
pub record Shaped (kind flags slots : List ℕ) : Type 0 where
  pub kinds : (c : ℕ) → get_or kind c 0 ≤ 3
  pub free_flags : (c : ℕ) → get_or kind c 0 ≡ 0 → get_or flags c 0 ≡ 0
  pub free_slots : (c k : ℕ) → k < 8 → get_or kind c 0 ≡ 0 → get_or slots (8 * c + k) 0 ≡ 0
  pub plain_flags : (c : ℕ) → 2 ≤ get_or kind c 0 → get_or flags c 0 ≡ 0
  pub plain_slots : PlainSlots kind slots
  pub object_flags : (c : ℕ) → get_or kind c 0 ≡ 1 → get_or flags c 0 ≤ 3
  pub object_not_two : (c : ℕ) → get_or kind c 0 ≡ 1 → get_or flags c 0 ≢ 2

-- rules 1 to 6, where the references `extra` are counted besides those that stand in the tables
pub record SoundBut (h : Heap) (extra : List ℕ) : Type 0 where
  pub fit : Fit h.kind h.flags h.count h.queue h.control
  pub slots : length h.slots ≡ 8 * length h.kind
  pub roots : length h.roots ≡ 64
  pub shaped : Shaped h.kind h.flags h.slots
  pub free_count : (c : ℕ) → kind_of h c ≡ 0 → count_of h c ≡ 0
  pub queue : QueueOk h.kind h.flags h.queue h.control
  pub running_most : running h ≤ 64
  pub runs : 1 ≤ running h → 1 ≤ queued h
  -- every count is the number of references; since a free cell's is 0, this holds rule 3 as well
  pub counted : (c : ℕ) → count_of h c ≡ occ (suc c) h.roots + occ (suc c) h.slots + occ (suc c) (entries h) + occ (suc c) extra
  pub positive : (c : ℕ) → 1 ≤ kind_of h c → 1 ≤ count_of h c

-- rule 3, of any place: what is referred to is used
pub referred_used : (h : Heap) (extra : List ℕ) → SoundBut h extra → (c : ℕ) → 1 ≤ occ (suc c) h.roots + occ (suc c) h.slots + occ (suc c) (entries h) + occ (suc c) extra → 1 ≤ kind_of h c
referred_used h extra s c o = elim (ℕ_discrete (kind_of h c) 0) [ yes z ↦ absurd (omega (arith, s.counted c, s.free_count c z)) | no n ↦ omega arith ]
