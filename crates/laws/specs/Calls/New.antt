-- NEW keeps the heap sound.
-- Assumes nothing.
use Rattle.std.specs.Prelude.{ℕ, suc, ◌+◌, ◌*◌, ◌≤◌, ◌<◌, [], ◌∷◌, ◌≡◌, ◌≢◌, set}
use Rattle.std.proofs.Math.Decide.{ℕ_discrete}
use Rattle.std.proofs.Common.{arith, sym, ◌∙◌}
use Rattle.std.proofs.Math.Path.{refl, ap}
use Rattle.std.proofs.Math.Logic.{by_cases}
use Rattle.std.proofs.Math.ListN.{get_or, length-set}
use Rattle.std.proofs.Math.Seq.{get_or-set_same, get_or-set_other}
use Rattle.rules.specs.Lists.{occ}
use Rattle.rules.specs.Heap.{Heap, cells, kind_of, root_at, entries, set_kind, set_flags, set_count, set_root}
use Rattle.rules.specs.Calls.{allocate}
use Rattle.laws.specs.Lists.Tables.{by_cell}
use Rattle.laws.specs.Lists.Occ.{occ_nil, occ_one, occ_other, occ-set}
use Rattle.laws.specs.Sound.But.{refit, Shaped, QueueOk, SoundBut}

module _ (h : Heap) (s : SoundBut h []) (r k f c : ℕ) (rootOk : r < 64) (rootEmpty : root_at h r ≡ 0)
    (low : 1 ≤ k) (high : k ≤ 3) (wish : f ≤ 1) (object : f ≡ 1 → k ≡ 1) (range : c < cells h) (free : kind_of h c ≡ 0) where
  kind_at : get_or (set h.kind c k) c 0 ≡ k
  kind_at = get_or-set_same h.kind c k 0 range

  kind_off : (d : ℕ) → d ≢ c → get_or (set h.kind c k) d 0 ≡ kind_of h d
  kind_off d n = get_or-set_other h.kind c d k 0 n

  flags_at : get_or (set h.flags c f) c 0 ≡ f
  flags_at = get_or-set_same h.flags c f 0 (omega (arith, s.fit.flags_size))

  flags_off : (d : ℕ) → d ≢ c → get_or (set h.flags c f) d 0 ≡ get_or h.flags d 0
  flags_off d n = get_or-set_other h.flags c d f 0 n

  new_shaped : Shaped (set h.kind c k) (set h.flags c f) h.slots
  new_shaped = record {
    kinds = by_cell c (omega (arith, kind_at)) (λ d n. omega (arith, kind_off d n, s.shaped.kinds d));
    free_flags = by_cell c (λ z. absurd (omega (arith, kind_at))) (λ d n z. flags_off d n ∙ s.shaped.free_flags d (sym (kind_off d n) ∙ z));
    free_slots = by_cell c (λ j b z. absurd (omega (arith, kind_at))) (λ d n j b z. s.shaped.free_slots d j b (sym (kind_off d n) ∙ z));
    plain_flags = by_cell c (λ g. flags_at ∙ plain (omega (arith, kind_at))) (λ d n g. flags_off d n ∙ s.shaped.plain_flags d (omega (arith, kind_off d n)));
    plain_slots = by_cell c (λ j b g. s.shaped.free_slots c j b free) (λ d n j b g. s.shaped.plain_slots d j b (omega (arith, kind_off d n)));
    object_flags = by_cell c (λ e. omega (arith, flags_at)) (λ d n e. omega (arith, flags_off d n, s.shaped.object_flags d (sym (kind_off d n) ∙ e)));
    object_not_two = by_cell c (λ e t. omega (arith, flags_at)) (λ d n e t. s.shaped.object_not_two d (sym (kind_off d n) ∙ e) (sym (flags_off d n) ∙ t));
  }
    where
      -- a finalizer goes with an object only
      plain : 2 ≤ k → f ≡ 0
      plain g = by_cases (ℕ_discrete f 1) (λ e. absurd (omega (arith, object e))) (λ n. omega arith)

  -- nothing refers to a free cell
  unreferred : occ (suc c) h.roots + occ (suc c) h.slots + occ (suc c) (entries h) ≡ 0
  unreferred = omega (arith, s.counted c, s.free_count c free)

  new_queue : QueueOk (set h.kind c k) (set h.flags c f) h.queue h.control
  new_queue = record {
    within = omega (arith, length-set h.kind c k, s.queue.within);
    once = s.queue.once;
    none_empty = s.queue.none_empty;
    object = by_cell c (λ o. absurd (omega (arith, unreferred))) (λ d n o. kind_off d n ∙ s.queue.object d o);
    wanting = by_cell c (λ o. absurd (omega (arith, unreferred))) (λ d n o. flags_off d n ∙ s.queue.wanting d o);
    rest = s.queue.rest;
  }

  pub new_sound : SoundBut (allocate h r k f c) []
  unfolding allocate set_root set_count set_flags set_kind
  new_sound =
      let one : get_or (set h.count c 1) c 0 ≡ 1 = get_or-set_same h.count c 1 0 (omega (arith, s.fit.count_size)) in
      let off : (d : ℕ) → d ≢ c → get_or (set h.count c 1) d 0 ≡ get_or h.count d 0 = λ d n. get_or-set_other h.count c d 1 0 n in
      let root : (x : ℕ) → occ x (set h.roots r (suc c)) + occ x (root_at h r ∷ []) ≡ occ x h.roots + occ x (suc c ∷ []) =
      λ x. occ-set x h.roots r (suc c) (omega (arith, s.roots)) in
      let empty : (d : ℕ) → occ (suc d) (root_at h r ∷ []) ≡ 0 = λ d. occ_other (suc d) (root_at h r) (λ e. omega arith) in
      record {
        fit = refit (length-set h.kind c k) (length-set h.flags c f) (length-set h.count c 1) refl refl s.fit;
        slots = s.slots ∙ ap (λ (n : ℕ). 8 * n) (sym (length-set h.kind c k));
        roots = length-set h.roots r (suc c) ∙ s.roots;
        shaped = new_shaped;
        free_count = by_cell c (λ z. absurd (omega (arith, kind_at))) (λ d n z. off d n ∙ s.free_count d (sym (kind_off d n) ∙ z));
        queue = new_queue;
        running_most = s.running_most;
        runs = s.runs;
        counted = by_cell c
            (omega (arith, one, root (suc c), empty c, occ_one (suc c) (suc c) refl, unreferred, occ_nil (suc c)))
            (λ d n. omega (arith, off d n, root (suc d), empty d, occ_other (suc d) (suc c) (λ e. n (omega arith)), s.counted d));
        positive = by_cell c (λ u. omega (arith, one)) (λ d n u. omega (arith, off d n, s.positive d (omega (arith, kind_off d n))));
      }
