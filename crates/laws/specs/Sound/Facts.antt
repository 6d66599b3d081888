-- A heap that every call but FRESH may go by: its tables fit, and it is sound. The same as the facts of `SoundBut`, and as the two tests.
-- Assumes nothing.
use Rattle.std.specs.Prelude.{ℕ, zero, suc, ◌+◌, ◌*◌, ◌≤◌, ◌<◌, List, [], true, ◌⊎◌, ◌≡◌, refl, length, get_or}
use Rattle.std.proofs.Common.{arith, inl, inr, ⊎_elim, sym, ap, ◌∙◌, get_or-take}
use Rattle.std.proofs.Math.Decide.{ℕ_discrete, dec_lt}
use Rattle.std.proofs.Math.Logic.{by_cases}
use Rattle.std.proofs.Math.ListN.{get_or-eq_default}
use Rattle.rules.specs.Lists.{occ}
use Rattle.rules.specs.Heap.{Heap, cells, queued, running, kind_of, flags_of, count_of, slot_of, root_at, queue_at, entries, Used}
use Rattle.rules.specs.Sound.{Sized, Reference, Entry, Ready}
use Rattle.rules.specs.Check.{fits, sound}
use Rattle.laws.specs.Lists.Tables.{inside}
use Rattle.laws.specs.Lists.Occ.{occ_nil, occ-length, occ_at, occ_find, occ_none, once_apart}
use Rattle.laws.specs.Sound.But.{SoundBut, referred_used}
use Rattle.laws.specs.Sound.Reflect.{fits_sized, sized_fits, sound_of, of_sound, flags_of_lem, entries-length, entries_once, slot_reference, bump_is}

pub ready_tests : {h : Heap} → Ready h → (fits h ≡ true) × (sound h ≡ true)
ready_tests {h} r = (sized_fits h r.sized, of_sound h r.sized r.sound)

pub tests_ready : {h : Heap} → fits h ≡ true → sound h ≡ true → Ready h
tests_ready {h} f s = record { sized = fits_sized h f; sound = sound_of h (fits_sized h f) s }

-- ---- from the rules to the facts

-- what is referred to is used, so that nothing refers to a free cell
unreferred : (h : Heap) (l : List ℕ) → ((i : ℕ) → i < length l → Reference h (get_or l i 0)) → (c : ℕ) → kind_of h c ≡ 0 → occ (suc c) l ≡ 0
unreferred h l refs c free =
    occ_none (suc c) l (λ i m e.
    ⊎_elim (λ z. omega arith) (λ r. let same : r.0 ≡ c = omega (arith, r.1) in omega (arith, r.2, ap (λ (d : ℕ). kind_of h d) same)) (refs i m))

module _ (h : Heap) (r : Ready h) where
  -- the rules of a cell hold beyond the tables too, where all is 0
  low : (c : ℕ) → (c < cells h) ⊎ ((kind_of h c ≡ 0) × (flags_of h c ≡ 0) × (count_of h c ≡ 0) × ((j : ℕ) → slot_of h c j ≡ 0))
  low c =
      by_cases (dec_lt c (cells h))
      inl
      (λ n. inr (
        get_or-eq_default h.kind 0 {n = c} (omega arith),
        get_or-eq_default h.flags 0 {n = c} (omega (arith, r.sized.flags)),
        get_or-eq_default h.count 0 {n = c} (omega (arith, r.sized.count)),
        λ j. get_or-eq_default h.slots 0 {n = 8 * c + j} (omega (arith, r.sized.slots)),
      ))

  -- the queue's entries
  entry_at : (i : ℕ) → i < length (entries h) → Entry h (get_or (entries h) i 0)
  entry_at i m =
      let l : i < queued h = omega (arith, entries-length h r.sized r.sound.rule4.0) in
      rw (get_or-take (queued h) h.queue i 0 l) (r.sound.rule4.2 i l)

  entry_cell : (c : ℕ) → 1 ≤ occ (suc c) (entries h) → (kind_of h c ≡ 1) × (flags_of h c ≡ 1)
  entry_cell c o =
      let s = occ_find (suc c) (entries h) o in
      let e = entry_at s.at s.inside in
      let same : e.0 ≡ c = omega (arith, s.is, e.1) in
      (ap (λ (d : ℕ). kind_of h d) (sym same) ∙ e.2, ap (λ (d : ℕ). flags_of h d) (sym same) ∙ e.3)

  free_count_lem : (c : ℕ) → kind_of h c ≡ 0 → count_of h c ≡ 0
  free_count_lem c e = ⊎_elim (λ l. ((r.sound.rule1 c l).1 e).1) (λ b. b.2) (low c)

  plain : (c : ℕ) → 2 ≤ kind_of h c → (kind_of h c ≡ 2) ⊎ (kind_of h c ≡ 3)
  plain c t =
      by_cases (ℕ_discrete (kind_of h c) 2) inl (λ n. inr (omega (arith, (r.sound.rule1 c (inside h.kind c (omega arith))).0)))

  -- rule 6, of free cells too: rule 3 keeps references from them
  counts : (c : ℕ) → count_of h c ≡ occ (suc c) h.roots + occ (suc c) h.slots + occ (suc c) (entries h) + occ (suc c) []
  counts c = elim (ℕ_discrete (kind_of h c) 0) [
    | yes z ↦
        let none : occ (suc c) (entries h) ≡ 0 = by_cases (ℕ_discrete (occ (suc c) (entries h)) 0) (λ e. e) (λ n. absurd (omega (arith, (entry_cell c (omega arith)).0))) in
        omega (
          arith,
          free_count_lem c z,
          occ_nil (suc c),
          unreferred h h.roots (λ i m. r.sound.rule3.0 i (omega (arith, r.sized.roots))) c z,
          unreferred h h.slots (slot_reference h r.sized r.sound) c z,
        )
    | no n ↦ omega (arith, (r.sound.rule6 c (omega arith)).0, bump_is h c (entries_once h r.sized r.sound.rule4 (suc c)), occ_nil (suc c))
  ]

pub ready_facts : {h : Heap} → Ready h → SoundBut h []
ready_facts {h} r =
    record {
      fit = record {
        some = r.sized.least;
        small = r.sized.most;
        flags_size = r.sized.flags;
        count_size = r.sized.count;
        queue_size = r.sized.queue;
        control_size = r.sized.control;
      };
      slots = r.sized.slots;
      roots = r.sized.roots;
      shaped = record {
        kinds = λ c. ⊎_elim (λ l. (r.sound.rule1 c l).0) (λ b. omega (arith, b.0)) (low h r c);
        free_flags = λ c e. ⊎_elim (λ l. ((r.sound.rule1 c l).1 e).0) (λ b. b.1) (low h r c);
        free_slots = λ c k b e. ⊎_elim (λ l. ((r.sound.rule1 c l).1 e).2 k b) (λ o. o.3 k) (low h r c);
        plain_flags = λ c t. ((r.sound.rule2 c (inside h.kind c (omega arith))).0 (plain h r c t)).0;
        plain_slots = λ c k b t. ((r.sound.rule2 c (inside h.kind c (omega arith))).0 (plain h r c t)).1 k b;
        object_flags = λ c e. ⊎_elim (λ z. omega arith) (⊎_elim (λ z. omega arith) (λ z. omega arith)) ((r.sound.rule2 c (inside h.kind c (omega arith))).1 e);
        object_not_two = λ c e t. ⊎_elim (λ z. omega arith) (⊎_elim (λ z. omega arith) (λ z. omega arith)) ((r.sound.rule2 c (inside h.kind c (omega arith))).1 e);
      };
      free_count = free_count_lem h r;
      queue = record {
        within = r.sound.rule4.0;
        once = entries_once h r.sized r.sound.rule4;
        none_empty = occ_none 0 (entries h) (λ i m e. omega (arith, (entry_at h r i m).1));
        object = λ c o. (entry_cell h r c o).0;
        wanting = λ c o. (entry_cell h r c o).1;
        rest = λ i l. by_cases (dec_lt i (cells h)) (r.sound.rule4.3 i l) (λ n. get_or-eq_default h.queue 0 {n = i} (omega (arith, r.sized.queue)));
      };
      running_most = ⊎_elim (λ z. omega arith) (λ t. omega (arith, t.1)) r.sound.rule5;
      runs = λ s. ⊎_elim (λ z. absurd (omega arith)) (λ t. t.2) r.sound.rule5;
      counted = counts h r;
      positive = λ c u. (r.sound.rule6 c u).1;
    }

-- ---- and back

pub facts_sized : {h : Heap} {extra : List ℕ} → SoundBut h extra → Sized h
facts_sized s =
    record {
      least = s.fit.some;
      most = s.fit.small;
      flags = s.fit.flags_size;
      count = s.fit.count_size;
      slots = s.slots;
      roots = s.roots;
      queue = s.fit.queue_size;
      control = s.fit.control_size;
    }

-- rule 3 and rule 4 of an entry x, by what it would name
reference : (h : Heap) (x : ℕ) → ((c : ℕ) → x ≡ suc c → Used h c) → Reference h x
reference h zero f = inl refl
reference h (suc c) f = inr (c, refl, f c refl)

entry_named : (h : Heap) (x : ℕ) → 1 ≤ x → ((c : ℕ) → x ≡ suc c → (kind_of h c ≡ 1) × (flags_of h c ≡ 1)) → Entry h x
entry_named h zero l f = absurd (omega arith)
entry_named h (suc c) l f = (c, refl, (f c refl).0, (f c refl).1)

module _ (h : Heap) (s : SoundBut h []) where
  queue-length : length (entries h) ≡ queued h
  queue-length = entries-length h (facts_sized s) s.queue.within

  -- an entry of the queue below its length stands in `entries`
  stands : (i : ℕ) → i < queued h → (x : ℕ) → queue_at h i ≡ x → 1 ≤ occ x (entries h)
  stands i l x e = occ_at x (entries h) i (omega (arith, queue-length)) (get_or-take (queued h) h.queue i 0 l ∙ e)

  queue_reference : (i : ℕ) → Reference h (queue_at h i)
  queue_reference i =
      by_cases (dec_lt i (queued h))
      (λ l. reference h (queue_at h i) (λ c e. omega (arith, s.queue.object c (stands i l (suc c) e))))
      (λ n. inl (s.queue.rest i (omega arith)))

  entry_there : (i : ℕ) → i < queued h → Entry h (queue_at h i)
  entry_there i l =
      let some : 1 ≤ queue_at h i = by_cases (ℕ_discrete (queue_at h i) 0) (λ z. absurd (omega (arith, s.queue.none_empty, stands i l 0 z))) (λ n. omega arith) in
      entry_named h (queue_at h i) some (λ c e. (s.queue.object c (stands i l (suc c) e), s.queue.wanting c (stands i l (suc c) e)))

pub facts_ready : {h : Heap} → SoundBut h [] → Ready h
facts_ready {h} s =
    record {
      sized = facts_sized s;
      sound = record {
        rule1 = λ c l. (s.shaped.kinds c, λ e. (s.shaped.free_flags c e, s.free_count c e, λ j b. s.shaped.free_slots c j b e));
        rule2 = λ c l. (
          λ e. let two : 2 ≤ kind_of h c = ⊎_elim (λ t. omega arith) (λ t. omega arith) e in (s.shaped.plain_flags c two, λ j b. s.shaped.plain_slots c j b two),
          λ e. flags_of_lem (flags_of h c) (s.shaped.object_flags c e) (s.shaped.object_not_two c e),
        );
        rule3 = (
          λ i l. reference h (root_at h i) (λ c e. referred_used h [] s c (omega (arith, occ_at (suc c) h.roots i (omega (arith, s.roots)) e))),
          λ c j l b. reference h (slot_of h c j) (λ d e. referred_used h [] s d (omega (arith, occ_at (suc d) h.slots (8 * c + j) (omega (arith, s.slots)) e))),
          λ i l. queue_reference h s i,
        );
        rule4 = (
          s.queue.within,
          λ i j o l e. once_apart (entries h) s.queue.once i j o (omega (arith, queue-length h s))
              (get_or-take (queued h) h.queue i 0 (omega arith) ∙ e ∙ sym (get_or-take (queued h) h.queue j 0 l)),
          entry_there h s,
          λ i l m. s.queue.rest i l,
        );
        rule5 = by_cases (ℕ_discrete (running h) 0) inl (λ n. inr (omega arith, s.running_most, s.runs (omega arith)));
        rule6 = λ c u. (omega (arith, s.counted c, bump_is h c (s.queue.once (suc c)), occ_nil (suc c)), s.positive c u);
      };
    }

-- "The largest count is 64 + 8,192 + 1 = 8,257": every root and every slot, and the queue once
pub largest_count : {h : Heap} → Ready h → (c : ℕ) → count_of h c ≤ 8257
largest_count {h} r c =
    let s = ready_facts r in
    omega (arith, s.counted c, s.queue.once (suc c), occ_nil (suc c), occ-length (suc c) h.roots, occ-length (suc c) h.slots, r.sized.roots, r.sized.slots, r.sized.most)
