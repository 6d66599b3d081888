-- What the steps of FINISH ask for and leave.
-- Assumes nothing: these are definitions.
use Rattle.std.specs.Prelude.{ℕ, suc, ◌-◌, ◌≤◌, ◌<◌, List, [], ◌∷◌, ◌++◌, ◌⊎◌, ◌≡◌, Option, Some, None, length, set, drop}
use Rattle.numbers.specs.declared.below.Below.{Below}
use Rattle.rules.specs.Heap.{Heap, tables, queued, running, queue_at}
use Rattle.rules.specs.Release.{start}
use Rattle.laws.specs.Release.Balance.{Draining}

-- the running root by what control says of it: its number plus 1, or 0 for none
abbrev pub AsRunning : ℕ → Option (Below 64) → Type 0
AsRunning x (Some r) = (x ≡ suc r.0) × (r.0 < 64)
AsRunning x None = (x ≡ 0) ⊎ (64 < x)

-- a queue that is not empty, with nothing but 0 behind its entries
pub record Waits (h : Heap) : Type 0 where
  pub some : 1 ≤ queued h
  pub within : queued h ≤ length h.queue
  pub rest : (i : ℕ) → queued h ≤ i → queue_at h i ≡ 0
  pub control_size : length h.control ≡ 2

-- the same queue without its head, and its length; nothing else is written
abbrev pub Popped : Heap → Heap → Type 0
Popped h k =
    k ≡ tables h.kind h.flags h.count h.slots h.roots (drop 1 h.queue ++ (0 ∷ [])) (set h.control 0 (queued h - 1))

-- the queue's head names a cell, and a root is running
pub record Leaves (h : Heap) (head running_root : ℕ) : Type 0 where
  pub waits : Waits h
  pub names_head : queue_at h 0 ≡ suc head
  pub head_cell : head < length h.flags
  pub runs : running h ≡ suc running_root
  pub stands : running_root < length h.roots

-- two references are counted and stand nowhere
pub record BothReleasable (h : Heap) (first second : ℕ) : Type 0 where
  pub outside : List ℕ
  pub draining : Draining (start h) [] (first ∷ second ∷ outside)
