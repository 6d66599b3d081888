-- The tests and the rules agree: `fits` is true exactly where `Sized` holds, and on such tables `sound` exactly where `Sound` holds.
-- Assumes nothing.
use Rattle.std.specs.Prelude.{ℕ, zero, suc, ◌+◌, ◌*◌, ◌≤◌, ◌<◌, ◌-◌, ◌/◌, ◌%◌, List, false, not, cond, ◌&&◌, ◌≢◌, ◌⊎◌, ◌↔◌, ◌≡◌, refl, leb, ltb, eqb, length, get_or, drop}
use native.Mathlib.Omega.{arith}
use Rattle.std.proofs.Math.Decide.{ℕ_discrete}
use Rattle.std.proofs.Math.Bool.{true}
use Rattle.std.proofs.Common.{inl, inr, ⊎_elim, ap, ◌∙◌, subst, get_or-take, get_or-drop, length-take-le}
use Rattle.std.proofs.Math.Logic.{by_cases}
use Rattle.std.proofs.Math.Path.{sym}
use Rattle.std.proofs.Math.ListN.{length-drop}
use borrow.Author.Tests.{eqb-true, eqb-false, eq-eqb, ne_eqb, leb-true, le-leb, ltb-true, lt-ltb, not-true}
use Rattle.rules.specs.Lists.{occ, all}
use Rattle.rules.specs.Heap.{Heap, cells, queued, kind_of, flags_of, count_of, queue_at, slots_of, entries, Used}
use Rattle.rules.specs.Sound.{Sized, EmptySlots, Reference, Entry, bump, Sound, Rule4}
use Rattle.rules.specs.Check.{fits, cell_ok, cell_at, ref_ok, entry_ok, running_ok, refs, count_ok, sound}
use Rattle.laws.specs.Lists.Tests.{every_pass, pass_every, clash, fails, and_join, and_left, and_right, below_all, below_at, all_all, all_at}
use Rattle.laws.specs.Lists.Tables.{inside, slot_entry, slots_length_lem}
use Rattle.laws.specs.Lists.Occ.{distinct_once, once_distinct, once_apart, apart_once}

-- ---- the lengths

pub fits_sized : (h : Heap) → fits h ≡ true → Sized h
unfolding fits
fits_sized h f =
    let t = every_pass _ f in
    record {
      least = leb-true _ _ t.0;
      most = leb-true _ _ t.1.0;
      flags = eqb-true _ _ t.1.1.0;
      count = eqb-true _ _ t.1.1.1.0;
      slots = eqb-true _ _ t.1.1.1.1.0;
      roots = eqb-true _ _ t.1.1.1.1.1.0;
      queue = eqb-true _ _ t.1.1.1.1.1.1.0;
      control = eqb-true _ _ t.1.1.1.1.1.1.1.0;
    }

pub sized_fits : (h : Heap) → Sized h → fits h ≡ true
unfolding fits
sized_fits h z =
    pass_every _ (
      le-leb _ _ z.least,
      (
        le-leb _ _ z.most,
        (
          eq-eqb _ _ z.flags,
          (
            eq-eqb _ _ z.count,
            (eq-eqb _ _ z.slots, (eq-eqb _ _ z.roots, (eq-eqb _ _ z.queue, (eq-eqb _ _ z.control, tt)))),
          ),
        ),
      ),
    )

pub fits_iff : (h : Heap) → (fits h ≡ true) ↔ Sized h
fits_iff h = (fits_sized h, sized_fits h)

pub unfit : (h : Heap) → ¬ Sized h → fits h ≡ false
unfit h n = fails (fits h) (λ t. n (fits_sized h t))

-- ---- rules 1 and 2: a cell

-- the test of eight slots and the rule's words for it
module _ (s : List ℕ) (n c : ℕ) (whole : length s ≡ 8 * n) (low : c < n) where
  slots_empty : all (eqb 0) (slots_of s c) ≡ true → (j : ℕ) → j < 8 → get_or s (8 * c + j) 0 ≡ 0
  slots_empty p j l =
      sym (eqb-true _ _ (all_at (eqb 0) (slots_of s c) p j (omega (arith, slots_length_lem s c n whole low))) ∙ slot_entry s c j l)

  empty_slots : ((j : ℕ) → j < 8 → get_or s (8 * c + j) 0 ≡ 0) → all (eqb 0) (slots_of s c) ≡ true
  empty_slots e =
      all_all (eqb 0) (slots_of s c)
      (λ j l. let m : j < 8 = omega (arith, slots_length_lem s c n whole low) in
      eq-eqb _ _ (sym (slot_entry s c j m ∙ e j m)))

-- what cellOk says of a cell's kind, flags, count and slots
pub record CellRules (k f n : ℕ) (s : List ℕ) : Type 0 where
  pub small : k ≤ 3
  pub free : k ≡ 0 → (f ≡ 0) × (n ≡ 0) × (all (eqb 0) s ≡ true)
  pub plain : (k ≡ 2) ⊎ (k ≡ 3) → (f ≡ 0) × (all (eqb 0) s ≡ true)
  pub object : k ≡ 1 → (f ≡ 0) ⊎ ((f ≡ 1) ⊎ (f ≡ 3))

pub flags_of_lem : (f : ℕ) → f ≤ 3 → f ≢ 2 → (f ≡ 0) ⊎ ((f ≡ 1) ⊎ (f ≡ 3))
flags_of_lem zero l e = inl refl
flags_of_lem (suc zero) l e = inr (inl refl)
flags_of_lem (suc (suc zero)) l e = absurd (e refl)
flags_of_lem (suc (suc (suc f))) l e = inr (inr (omega arith))

pub cell_rules : (k f n : ℕ) (s : List ℕ) → cell_ok k f n s ≡ true → CellRules k f n s
unfolding cell_ok
cell_rules zero f n s p =
    let t = every_pass _ p in
    record {
      small = omega arith;
      free = λ e. (eqb-true _ _ t.0, eqb-true _ _ t.1.0, t.1.1.0);
      plain = ⊎_elim (λ e. absurd (omega arith)) (λ e. absurd (omega arith));
      object = λ e. absurd (omega arith);
    }
cell_rules (suc zero) f n s p =
    record {
      small = omega arith;
      free = λ e. absurd (omega arith);
      plain = ⊎_elim (λ e. absurd (omega arith)) (λ e. absurd (omega arith));
      object = λ e. flags_of_lem f (leb-true _ _ (and_left (leb f 3) (not (eqb f 2)) p)) (eqb-false _ _ (not-true _ (and_right (leb f 3) (not (eqb f 2)) p)));
    }
cell_rules (suc (suc k)) f n s p =
    let t = every_pass _ p in
    record {
      small = omega (arith, leb-true k 1 t.0);
      free = λ e. absurd (omega arith);
      plain = λ e. (eqb-true _ _ t.1.0, t.1.1.0);
      object = λ e. absurd (omega arith);
    }

pub cell_ok_lem : (k f n : ℕ) (s : List ℕ) → CellRules k f n s → cell_ok k f n s ≡ true
unfolding cell_ok
cell_ok_lem zero f n s r = let t = r.free refl in pass_every _ (eq-eqb _ _ t.0, (eq-eqb _ _ t.1, (t.2, tt)))
cell_ok_lem (suc zero) f n s r = ⊎_elim (λ e. rw e refl) (⊎_elim (λ e. rw e refl) (λ e. rw e refl)) (r.object refl)
cell_ok_lem (suc (suc k)) f n s r =
    let t = r.plain (go k r.small) in
    pass_every _ (le-leb k 1 (omega (arith, r.small)), (eq-eqb _ _ t.0, (t.1, tt)))
  where
    go : (k : ℕ) → suc (suc k) ≤ 3 → (suc (suc k) ≡ 2) ⊎ (suc (suc k) ≡ 3)
    go zero l = inl refl
    go (suc k) l = inr (omega arith)

-- ---- rule 3: a reference

pub ref_of : (h : Heap) (x : ℕ) → ref_ok h x ≡ true → Reference h x
unfolding ref_ok
ref_of h zero p = inl refl
ref_of h (suc c) p =
    inr (c, refl, omega (arith, eqb-false (kind_of h c) 0 (not-true _ (and_right (ltb c (cells h)) (not (eqb (kind_of h c) 0)) p))))

pub ref_ok_lem : (h : Heap) (x : ℕ) → Reference h x → ref_ok h x ≡ true
unfolding ref_ok
ref_ok_lem h x (inl e) = rw e refl
ref_ok_lem h x (inr r) = rw r.1 (rw (lt-ltb r.0 (cells h) (inside h.kind r.0 r.2), ne_eqb (kind_of h r.0) 0 (λ e. omega (arith, r.2))) refl)

-- ---- rule 4: an entry of the queue

pub entry_of : (h : Heap) (x : ℕ) → entry_ok h.kind h.flags x ≡ true → Entry h x
unfolding entry_ok
entry_of h zero p = clash p refl
entry_of h (suc c) p =
    (c, refl, eqb-true _ _ (and_left (eqb (kind_of h c) 1) (eqb (flags_of h c) 1) p), eqb-true _ _ (and_right (eqb (kind_of h c) 1) (eqb (flags_of h c) 1) p))

pub entry_ok_lem : (h : Heap) (x : ℕ) → Entry h x → entry_ok h.kind h.flags x ≡ true
unfolding entry_ok
entry_ok_lem h x e = rw e.1 (and_join (eq-eqb _ _ e.2) (eq-eqb _ _ e.3))

-- ---- rule 5: the running root

pub running_of : (r n : ℕ) → running_ok r n ≡ true → (r ≡ 0) ⊎ ((1 ≤ r) × (r ≤ 64) × (1 ≤ n))
unfolding running_ok
running_of zero n p = inl refl
running_of (suc r) n p =
    inr (omega arith, ltb-true r 64 (and_left (ltb r 64) (leb 1 n) p), leb-true 1 n (and_right (ltb r 64) (leb 1 n) p))

pub running_ok_lem : (r n : ℕ) → (r ≡ 0) ⊎ ((1 ≤ r) × (r ≤ 64) × (1 ≤ n)) → running_ok r n ≡ true
unfolding running_ok
running_ok_lem zero n p = refl
running_ok_lem (suc r) n (inl e) = absurd (omega arith)
running_ok_lem (suc r) n (inr t) = and_join (lt-ltb r 64 t.1) (le-leb 1 n t.2)

-- ---- rule 6: a used cell's count

-- where no entry of the queue stands twice, the bump is how often the queue holds the cell
pub bump_is : (h : Heap) (c : ℕ) → occ (suc c) (entries h) ≤ 1 → bump h c ≡ occ (suc c) (entries h)
unfolding bump
bump_is h c once = go (occ (suc c) (entries h)) once
  where
    go : (n : ℕ) → n ≤ 1 → cond (eqb n 0) 0 1 ≡ n
    go zero l = refl
    go (suc zero) l = refl
    go (suc (suc n)) l = absurd (omega arith)

pub count_of_lem : (h : Heap) (c : ℕ) → count_ok h c ≡ true → Used h c → (count_of h c ≡ refs h c) × (1 ≤ count_of h c)
unfolding count_ok
count_of_lem h c p u =
    let q : (eqb (count_of h c) (refs h c) && leb 1 (count_of h c)) ≡ true = rw (ne_eqb (kind_of h c) 0 (λ e. omega arith)) at p in
    (eqb-true _ _ (and_left (eqb (count_of h c) (refs h c)) (leb 1 (count_of h c)) q), leb-true _ _ (and_right (eqb (count_of h c) (refs h c)) (leb 1 (count_of h c)) q))

pub count_ok_lem : (h : Heap) (c : ℕ) → (Used h c → (count_of h c ≡ refs h c) × (1 ≤ count_of h c)) → count_ok h c ≡ true
unfolding count_ok
count_ok_lem h c f =
    by_cases (ℕ_discrete (kind_of h c) 0)
    (λ e. rw (eq-eqb _ _ e) refl)
    (λ n. let t = f (omega arith) in rw (ne_eqb _ _ n, eq-eqb _ _ t.0, le-leb _ _ t.1) refl)

-- ---- all rules

module _ (h : Heap) (z : Sized h) where
  -- the queue below its length, and from it on
  in_use : (i : ℕ) → i < queued h → get_or (entries h) i 0 ≡ queue_at h i
  in_use i l = get_or-take (queued h) h.queue i 0 l

  pub entries-length : queued h ≤ cells h → length (entries h) ≡ queued h
  entries-length few = length-take-le (queued h) h.queue (omega (arith, z.queue))

  unused : (i : ℕ) → queued h ≤ i → get_or (drop (queued h) h.queue) (i - queued h) 0 ≡ queue_at h i
  unused i l = get_or-drop (queued h) h.queue (i - queued h) 0 ∙ ap (λ (k : ℕ). queue_at h k) (omega arith)

  pub sound_of : sound h ≡ true → Sound h
  unfolding sound cell_at refs
  sound_of p =
      let t = every_pass _ p in
      let cell : (c : ℕ) → c < cells h → CellRules (kind_of h c) (flags_of h c) (count_of h c) (slots_of h.slots c)
      = λ c l. cell_rules _ _ _ _ (below_at _ _ t.0 c l) in
      let empty : (c : ℕ) → c < cells h → all (eqb 0) (slots_of h.slots c) ≡ true → EmptySlots h c
      = λ c l. slots_empty h.slots (cells h) c z.slots l in
      let few : queued h ≤ cells h = leb-true _ _ t.1.1.1.1.0 in
      let len = entries-length few in
      let once = distinct_once _ t.1.1.1.1.1.0 in
      record {
        rule1 = λ c l. ((cell c l).small, λ e. (((cell c l).free e).0, ((cell c l).free e).1, empty c l ((cell c l).free e).2));
        rule2 = λ c l. (λ e. (((cell c l).plain e).0, empty c l ((cell c l).plain e).1), (cell c l).object);
        rule3 = (
          λ i l. ref_of h _ (all_at _ _ t.1.0 i (omega (arith, z.roots))),
          λ c j l m. ref_of h _ (all_at _ _ t.1.1.0 (8 * c + j) (omega (arith, z.slots))),
          λ i l. ref_of h _ (all_at _ _ t.1.1.1.0 i (omega (arith, z.queue))),
        );
        rule4 = (
          few,
          λ i j o l e. once_apart (entries h) once i j o (omega arith) (in_use i (omega arith) ∙ e ∙ sym (in_use j l)),
          λ i l. entry_of h _ (rw (in_use i l) at (all_at _ _ t.1.1.1.1.1.1.0 i (omega arith))),
          λ i l m. sym (eqb-true _ _ (all_at (eqb 0) (drop (queued h) h.queue) t.1.1.1.1.1.1.1.0 (i - queued h) (omega (arith, z.queue, length-drop (queued h) h.queue)))
              ∙ unused i l),
        );
        rule5 = running_of _ _ t.1.1.1.1.1.1.1.1.0;
        rule6 = λ c u. let e = count_of_lem h c (below_at _ _ t.1.1.1.1.1.1.1.1.1.0 c (inside h.kind c u)) u in
            (omega (arith, e.0, bump_is h c (once (suc c))), e.1);
      }

  -- rule 3 of a slot by its place in the whole table
  pub slot_reference : Sound h → (i : ℕ) → i < length h.slots → Reference h (get_or h.slots i 0)
  slot_reference r i l =
      subst (λ (k : ℕ). Reference h (get_or h.slots k 0)) (omega arith) (r.rule3.1 (i / 8) (i % 8) (omega (arith, z.slots)) (omega arith))

  -- rule 4: the queue's entries are distinct
  pub entries_once : Rule4 h → (x : ℕ) → occ x (entries h) ≤ 1
  entries_once r =
      let len = entries-length r.0 in
      apart_once (entries h) (λ i j o l e. r.1 i j o (omega arith) (sym (in_use i (omega arith)) ∙ e ∙ in_use j (omega arith)))

  pub of_sound : Sound h → sound h ≡ true
  unfolding sound cell_at refs
  of_sound r =
      let few = r.rule4.0 in
      let len = entries-length few in
      let once = entries_once r.rule4 in
      pass_every _ (
        below_all _ _ (λ c l. cell_ok_lem _ _ _ _ (record {
          small = (r.rule1 c l).0;
          free = λ e. let f = (r.rule1 c l).1 e in (f.0, f.1, empty_slots h.slots (cells h) c z.slots l f.2);
          plain = λ e. let f = (r.rule2 c l).0 e in (f.0, empty_slots h.slots (cells h) c z.slots l f.1);
          object = (r.rule2 c l).1;
        })),
        (
          all_all _ _ (λ i l. ref_ok_lem h _ (r.rule3.0 i (omega (arith, z.roots)))),
          (
            all_all _ _ (λ i l. ref_ok_lem h _ (slot_reference r i l)),
            (
              all_all _ _ (λ i l. ref_ok_lem h _ (r.rule3.2 i (omega (arith, z.queue)))),
              (
                le-leb _ _ few,
                (
                  once_distinct _ once,
                  (
                    all_all _ _ (λ i l. let m : i < queued h = omega arith in rw (in_use i m) (entry_ok_lem h _ (r.rule4.2 i m))),
                    (
                      all_all _ _
                          (λ i l. eq-eqb _ _ (sym (get_or-drop (queued h) h.queue i 0 ∙ r.rule4.3 (queued h + i) (omega arith) (omega (arith, z.queue, length-drop (queued h) h.queue))))),
                      (
                        running_ok_lem _ _ r.rule5,
                        (
                          below_all _ _ (λ c l. count_ok_lem h c (λ u. let e = r.rule6 c u in
                              (omega (arith, e.0, bump_is h c (once (suc c))), e.1))),
                          tt,
                        ),
                      ),
                    ),
                  ),
                ),
              ),
            ),
          ),
        ),
      )

pub sound_iff : (h : Heap) → Sized h → (sound h ≡ true) ↔ Sound h
sound_iff h z = (sound_of h z, of_sound h z)
