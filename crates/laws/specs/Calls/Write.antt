-- Raising a count and writing a reference, in a heap that is sound but for some counted references: each moves one reference.
-- Assumes nothing.
use Rattle.std.specs.Prelude.{ℕ, zero, suc, ◌+◌, ◌*◌, ◌≤◌, ◌<◌, List, [], ◌∷◌, ◌≢◌, ◌≡◌, refl, length, get_or, set}
use Rattle.std.proofs.Common.{arith, ap, ◌∙◌, length-set, get_or-set_same, get_or-set_other}
use Rattle.rules.specs.Heap.{Heap, kind_of, count_of, slot_of, root_at, set_root, set_slot}
use Rattle.rules.specs.Release.{raise, incref}
use Rattle.laws.specs.Lists.Tables.{by_cell, inside}
use Rattle.laws.specs.Lists.Occ.{occ_here, occ_there, occ_cons, occ-length, occ-set}
use Rattle.laws.specs.Sound.But.{refit, SoundBut}

-- a count is raised: one reference more is counted
pub incref_sound : (h : Heap) (r : ℕ) (extra : List ℕ) → ((c : ℕ) → r ≡ suc c → 1 ≤ kind_of h c) → SoundBut h extra → SoundBut (incref h r) (r ∷ extra)
unfolding incref raise
incref_sound h zero extra used s = record {
  fit = s.fit;
  slots = s.slots;
  roots = s.roots;
  shaped = s.shaped;
  free_count = s.free_count;
  queue = s.queue;
  running_most = s.running_most;
  runs = s.runs;
  counted = λ c. omega (arith, s.counted c, occ_there (suc c) 0 extra (λ z. omega arith));
  positive = s.positive;
}
incref_sound h (suc c) extra used s =
    let u : 1 ≤ kind_of h c = used c refl in
    let n : ℕ = suc (count_of h c) in
    let at : get_or (set h.count c n) c 0 ≡ n = get_or-set_same h.count c n 0 (omega (arith, inside h.kind c u)) in
    let off : (d : ℕ) → d ≢ c → get_or (set h.count c n) d 0 ≡ count_of h d = λ d m. get_or-set_other h.count c d n 0 m in
    record {
      fit = refit refl refl (length-set h.count c n) refl refl s.fit;
      slots = s.slots;
      roots = s.roots;
      shaped = s.shaped;
      free_count = by_cell c (λ z. omega arith) (λ d m z. off d m ∙ s.free_count d z);
      queue = s.queue;
      running_most = s.running_most;
      runs = s.runs;
      counted = by_cell c
          (omega (arith, s.counted c, occ_here (suc c) extra))
          (λ d m. omega (arith, off d m, s.counted d, occ_there (suc d) (suc c) extra (λ z. m (omega arith))));
      positive = by_cell c (λ o. omega arith) (λ d m o. omega (arith, off d m, s.positive d o));
    }

-- a reference that is counted is written into a root: the one that stood there is counted and stands there no more
pub root_sound : (h : Heap) (i r : ℕ) (extra : List ℕ) → i < 64 → SoundBut h (r ∷ extra) → SoundBut (set_root h i r) (root_at h i ∷ extra)
unfolding set_root
root_sound h i r extra small s = record {
  fit = s.fit;
  slots = s.slots;
  roots = length-set h.roots i r ∙ s.roots;
  shaped = s.shaped;
  free_count = s.free_count;
  queue = s.queue;
  running_most = s.running_most;
  runs = s.runs;
  counted = λ c. omega (arith, s.counted c, occ-set (suc c) h.roots i r (omega arith), occ_cons (suc c) r extra, occ_cons (suc c) (root_at h i) extra);
  positive = s.positive;
}

-- the same for a slot of an object
pub slot_sound : (h : Heap) (c k r : ℕ) (extra : List ℕ) → k < 8 → kind_of h c ≡ 1 → SoundBut h (r ∷ extra)
    → SoundBut (set_slot h (8 * c + k) r) (slot_of h c k ∷ extra)
unfolding set_slot
slot_sound h c k r extra small object s =
    let i : ℕ = 8 * c + k in
    let range : i < length h.slots = omega (arith, inside h.kind c (omega arith)) in
    let other : (d j : ℕ) → j < 8 → kind_of h d ≢ 1 → get_or (set h.slots i r) (8 * d + j) 0 ≡ slot_of h d j =
    λ d j l m. get_or-set_other h.slots i (8 * d + j) r 0 (λ e. let same : d ≡ c = omega arith in m (ap (kind_of h) same ∙ object)) in
    record {
      fit = s.fit;
      slots = length-set h.slots i r ∙ s.slots;
      roots = s.roots;
      shaped = record {
        kinds = s.shaped.kinds;
        free_flags = s.shaped.free_flags;
        free_slots = λ d j l z. other d j l (λ e. omega arith) ∙ s.shaped.free_slots d j l z;
        plain_flags = s.shaped.plain_flags;
        plain_slots = λ d j l z. other d j l (λ e. omega arith) ∙ s.shaped.plain_slots d j l z;
        object_flags = s.shaped.object_flags;
        object_not_two = s.shaped.object_not_two;
      };
      free_count = s.free_count;
      queue = s.queue;
      running_most = s.running_most;
      runs = s.runs;
      counted = λ d. omega (arith, s.counted d, occ-set (suc d) h.slots i r range, occ_cons (suc d) r extra, occ_cons (suc d) (slot_of h c k) extra);
      positive = s.positive;
    }

-- the largest count: 64 roots, 8 * 1,024 slots and the queue's bump, besides the references that stand nowhere
pub count_bound : (h : Heap) (extra : List ℕ) → SoundBut h extra → (c : ℕ) → count_of h c ≤ 8257 + length extra
count_bound h extra s c =
    omega (arith, s.counted c, occ-length (suc c) h.roots, occ-length (suc c) h.slots, s.queue.once (suc c), occ-length (suc c) extra)

-- "raise the new target's count, write": then the old target's reference is counted and stands nowhere, and is to come off
pub write_root_ready : (h : Heap) (to r : ℕ) → to < 64 → ((c : ℕ) → r ≡ suc c → 1 ≤ kind_of h c) → SoundBut h []
    → SoundBut (set_root (incref h r) to r) (root_at h to ∷ [])
unfolding incref
write_root_ready h to r small used s = root_sound (incref h r) to r [] small (incref_sound h r [] used s)

pub write_slot_ready : (h : Heap) (c k r : ℕ) → k < 8 → kind_of h c ≡ 1 → ((d : ℕ) → r ≡ suc d → 1 ≤ kind_of h d) → SoundBut h []
    → SoundBut (set_slot (incref h r) (8 * c + k) r) (slot_of h c k ∷ [])
unfolding incref
write_slot_ready h c k r small object used s = slot_sound (incref h r) c k r [] small object (incref_sound h r [] used s)
