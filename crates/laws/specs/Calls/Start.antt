-- START keeps the heap sound: its root was empty, so nothing is to be taken off.
-- Assumes nothing.
use Rattle.std.specs.Prelude.{ℕ, suc, ◌-◌, ◌≤◌, ◌<◌, ◌≡◌, refl, get_or, set}
use Rattle.std.proofs.Common.{arith, ap, length-set, get_or-set_same, get_or-set_other}
use mathlib.Core.List.{List, [], ◌∷◌}
use Rattle.rules.specs.Heap.{Heap, queued, root_at, queue_at, kind_of, set_root, set_running}
use Rattle.rules.specs.Release.{incref}
use Rattle.rules.specs.Calls.{start_run}
use Rattle.laws.specs.Lists.Occ.{occ_nil, occ_other}
use Rattle.laws.specs.Sound.But.{refit, SoundBut}
use Rattle.laws.specs.Calls.Write.{write_root_ready}
use Rattle.laws.specs.Calls.Finish.{head_object}

-- a reference that is empty is none
pub drop-empty : (h : Heap) (x : ℕ) → x ≡ 0 → SoundBut h (x ∷ []) → SoundBut h []
drop-empty h x e s = record {
  fit = s.fit;
  slots = s.slots;
  roots = s.roots;
  shaped = s.shaped;
  free_count = s.free_count;
  queue = s.queue;
  running_most = s.running_most;
  runs = s.runs;
  counted = λ c. omega (arith, s.counted c, occ_other (suc c) x (λ z. omega arith), occ_nil (suc c));
  positive = s.positive;
}

-- a finalizer runs in a root while the queue is not empty
pub running_sound : (h : Heap) (extra : List ℕ) (r : ℕ) → r ≤ 64 → 1 ≤ queued h → SoundBut h extra → SoundBut (set_running h r) extra
unfolding set_running
running_sound h extra r top some s =
    let q : get_or (set h.control 1 r) 0 0 ≡ queued h = get_or-set_other h.control 1 0 r 0 (λ e. omega arith) in
    let run : get_or (set h.control 1 r) 1 0 ≡ r = get_or-set_same h.control 1 r 0 (omega (arith, s.fit.control_size)) in
    record {
      fit = refit refl refl refl refl (length-set h.control 1 r) s.fit;
      slots = s.slots;
      roots = s.roots;
      shaped = s.shaped;
      free_count = s.free_count;
      queue = record {
        within = rw q s.queue.within;
        once = rw q s.queue.once;
        none_empty = rw q s.queue.none_empty;
        object = rw q s.queue.object;
        wanting = rw q s.queue.wanting;
        rest = rw q s.queue.rest;
      };
      running_most = omega (arith, run);
      runs = λ o. omega (arith, q);
      counted = rw q s.counted;
      positive = s.positive;
    }

-- the queue's head is a used cell
pub head_used : (h : Heap) → SoundBut h [] → 1 ≤ queued h → (c : ℕ) → queue_at h 0 ≡ suc c → 1 ≤ kind_of h c
head_used h s some c e =
    let same : queue_at h 0 - 1 ≡ c = omega arith in
    omega (arith, head_object h s some, ap (kind_of h) same)

module _ (h : Heap) (s : SoundBut h []) (r : ℕ) (rootOk : r < 64) (rootEmpty : root_at h r ≡ 0) (some : 1 ≤ queued h) where
  pub start_sound : SoundBut (start_run h r) []
  unfolding start_run
  start_sound =
      running_sound (set_root (incref h (queue_at h 0)) r (queue_at h 0)) [] (suc r) rootOk (unfold set_root incref in some)
      (drop-empty (set_root (incref h (queue_at h 0)) r (queue_at h 0)) (root_at h r) rootEmpty (write_root_ready h r (queue_at h 0) rootOk (head_used h s some) s))
