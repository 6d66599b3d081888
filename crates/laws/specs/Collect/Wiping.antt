-- COLLECT's second round, table by table: the cells of a list become free.
-- Assumes nothing.
use Rattle.std.specs.Prelude.{ℕ, suc, ◌+◌, ◌*◌, ◌≤◌, ◌<◌, List, [], ◌∷◌, ◌≡◌, refl, ◌≢◌, length, get_or, set}
use Rattle.std.proofs.Common.{arith, sym, ◌∙◌, ap, length-set, length-take, get_or-set_other, ext_get_or}
use Rattle.std.proofs.Math.Decide.{ℕ_discrete}
use Rattle.std.proofs.Math.Logic.{by_cases}
use Rattle.std.proofs.Math.ListN.{length-drop}
use Rattle.rules.specs.Lists.{occ}
use Rattle.rules.specs.Heap.{Heap, kind_of, flags_of, count_of, slot_of, slots_of, wiped_slots, wipe}
use Rattle.rules.specs.Collect.{wipe_all}
use Rattle.laws.specs.Lists.Tables.{set_here, slot_entry, slots_most}
use Rattle.laws.specs.Lists.Occ.{occ_nil, occ_here, occ_cons, occ_one, occ_absent, occ_single, occ_cleared}
use Rattle.laws.specs.Sound.But.{PlainSlots}
use Rattle.laws.specs.Freeing.{wiped_length, wiped_out, wipe_plain, wiped_in, plain_kept}
use Rattle.laws.specs.Collect.Unlinking.{held_by}

-- ---- on any tables

-- the cells of l are free, the others are as they were
pub record Wiped (h after : Heap) (l : List ℕ) : Type 0 where
  pub roots : after.roots ≡ h.roots
  pub queue : after.queue ≡ h.queue
  pub control : after.control ≡ h.control
  pub kind_length : length after.kind ≡ length h.kind
  pub flags_length : length after.flags ≡ length h.flags
  pub count_length : length after.count ≡ length h.count
  pub slots_length : length after.slots ≡ length h.slots
  pub kind_out : (x : ℕ) → occ x l ≡ 0 → kind_of after x ≡ kind_of h x
  pub flags_out : (x : ℕ) → occ x l ≡ 0 → flags_of after x ≡ flags_of h x
  pub count_out : (x : ℕ) → occ x l ≡ 0 → count_of after x ≡ count_of h x
  pub slots_out : (x s : ℕ) → s < 8 → occ x l ≡ 0 → slot_of after x s ≡ slot_of h x s
  pub kind_in : (x : ℕ) → 1 ≤ occ x l → kind_of after x ≡ 0
  pub flags_in : (x : ℕ) → 1 ≤ occ x l → flags_of after x ≡ 0
  pub count_in : (x : ℕ) → 1 ≤ occ x l → count_of after x ≡ 0

cleared_in : (l : List ℕ) (c x : ℕ) → 1 ≤ occ x (c ∷ []) → get_or (set l c 0) x 0 ≡ 0
cleared_in l c x i = ap (λ (y : ℕ). get_or (set l c 0) y 0) (occ_single x c i) ∙ set_here l c

wiped_one : (h : Heap) (c : ℕ) → Wiped h (wipe h c) (c ∷ [])
unfolding wipe
wiped_one h c = record {
  roots = refl;
  queue = refl;
  control = refl;
  kind_length = length-set h.kind c 0;
  flags_length = length-set h.flags c 0;
  count_length = length-set h.count c 0;
  slots_length = wiped_length (kind_of h c) h.slots c;
  kind_out = λ x o. get_or-set_other h.kind c x 0 0 (occ_absent x c o);
  flags_out = λ x o. get_or-set_other h.flags c x 0 0 (occ_absent x c o);
  count_out = λ x o. get_or-set_other h.count c x 0 0 (occ_absent x c o);
  slots_out = λ x s b o. wiped_out (kind_of h c) h.slots c x s b (occ_absent x c o);
  kind_in = cleared_in h.kind c;
  flags_in = cleared_in h.flags c;
  count_in = cleared_in h.count c;
}

wiped_then : (h g k : Heap) (c : ℕ) (l : List ℕ) → Wiped h g (c ∷ []) → Wiped g k l → Wiped h k (c ∷ l)
wiped_then h g k c l a b =
    let sum : (x : ℕ) → occ x (c ∷ l) ≡ occ x (c ∷ []) + occ x l = λ x. occ_cons x c l in
    record {
      roots = b.roots ∙ a.roots;
      queue = b.queue ∙ a.queue;
      control = b.control ∙ a.control;
      kind_length = b.kind_length ∙ a.kind_length;
      flags_length = b.flags_length ∙ a.flags_length;
      count_length = b.count_length ∙ a.count_length;
      slots_length = b.slots_length ∙ a.slots_length;
      kind_out = λ x z. b.kind_out x (omega (arith, sum x)) ∙ a.kind_out x (omega (arith, sum x));
      flags_out = λ x z. b.flags_out x (omega (arith, sum x)) ∙ a.flags_out x (omega (arith, sum x));
      count_out = λ x z. b.count_out x (omega (arith, sum x)) ∙ a.count_out x (omega (arith, sum x));
      slots_out = λ x s t z. b.slots_out x s t (omega (arith, sum x)) ∙ a.slots_out x s t (omega (arith, sum x));
      kind_in = λ x i. by_cases (ℕ_discrete (occ x l) 0) (λ z. b.kind_out x z ∙ a.kind_in x (omega (arith, sum x))) (λ n. b.kind_in x (omega arith));
      flags_in = λ x i. by_cases (ℕ_discrete (occ x l) 0) (λ z. b.flags_out x z ∙ a.flags_in x (omega (arith, sum x))) (λ n. b.flags_in x (omega arith));
      count_in = λ x i. by_cases (ℕ_discrete (occ x l) 0) (λ z. b.count_out x z ∙ a.count_in x (omega (arith, sum x))) (λ n. b.count_in x (omega arith));
    }

wiped_none : (h : Heap) → Wiped h h []
wiped_none h = record {
  roots = refl;
  queue = refl;
  control = refl;
  kind_length = refl;
  flags_length = refl;
  count_length = refl;
  slots_length = refl;
  kind_out = λ x o. refl;
  flags_out = λ x o. refl;
  count_out = λ x o. refl;
  slots_out = λ x s b o. refl;
  kind_in = λ x i. absurd (omega (arith, occ_nil x));
  flags_in = λ x i. absurd (omega (arith, occ_nil x));
  count_in = λ x i. absurd (omega (arith, occ_nil x));
}

pub wiped : (h : Heap) (l : List ℕ) → Wiped h (wipe_all h l) l
unfolding wipe_all
wiped h [] = wiped_none h
wiped h (c ∷ l) = wiped_then h (wipe h c) _ c l (wiped_one h c) (wiped (wipe h c) l)

-- the slots of another cell are not touched
wiped_others : (h : Heap) (c d : ℕ) → d ≢ c → slots_of (wipe h c).slots d ≡ slots_of h.slots d
unfolding wipe
wiped_others h c d n =
    ext_get_or 0 (slots_of k d) (slots_of h.slots d) (short (wiped_length (kind_of h c) h.slots c))
    (λ i b.
    let i8 : i < 8 = omega (arith, slots_most k d) in
    slot_entry k d i i8 ∙ wiped_out (kind_of h c) h.slots c d i i8 n ∙ sym (slot_entry h.slots d i i8))
  where
    k : List ℕ
    k = wiped_slots (kind_of h c) h.slots c

    short : length k ≡ length h.slots → length (slots_of k d) ≡ length (slots_of h.slots d)
    short e = unfold slots_of in simp (length-take, length-drop, e)

held_by_others : (h : Heap) (c : ℕ) (l : List ℕ) → occ c l ≡ 0 → (y : ℕ) → held_by (wipe h c).slots l y ≡ held_by h.slots l y
unfolding held_by
held_by_others h c [] o y = refl
held_by_others h c (d ∷ l) o y =
    let n : d ≢ c = λ e. omega (arith, occ_cons c d l, occ_one c d (sym e)) in
    omega (arith, ap (occ y) (wiped_others h c d n), held_by_others h c l (omega (arith, occ_cons c d l)) y)

-- ---- where the slots of strings and buffers are empty

-- the slots of the cells of l are 0, and what they held is held so much less
pub record Emptied (h after : Heap) (l : List ℕ) : Type 0 where
  pub slots_in : (x s : ℕ) → s < 8 → 1 ≤ occ x l → slot_of after x s ≡ 0
  pub slots_occ : (y : ℕ) → occ (suc y) after.slots + held_by h.slots l (suc y) ≡ occ (suc y) h.slots

-- one cell's are held no more
wiped_occ : (h : Heap) (c : ℕ) → PlainSlots h.kind h.slots → 8 * c + 8 ≤ length h.slots
    → (y : ℕ) → occ (suc y) (wipe h c).slots + occ (suc y) (slots_of h.slots c) ≡ occ (suc y) h.slots
unfolding slots_of
wiped_occ h c empty room y = omega (arith, ap (λ (g : Heap). occ (suc y) g.slots) (wipe_plain h c empty), occ_cleared 8 h.slots (8 * c) y room)

pub emptied_all : (h : Heap) (l : List ℕ) → PlainSlots h.kind h.slots → ((x : ℕ) → occ x l ≤ 1)
    → ((x : ℕ) → 1 ≤ occ x l → 8 * x + 8 ≤ length h.slots) → Emptied h (wipe_all h l) l
unfolding wipe_all held_by
emptied_all h [] empty once inside = record { slots_in = λ x s b i. absurd (omega (arith, occ_nil x)); slots_occ = λ y. omega arith }
emptied_all h (c ∷ l) empty once inside =
    let g : Heap = wipe h c in
    let sum : (x : ℕ) → occ x (c ∷ l) ≡ occ x (c ∷ []) + occ x l = λ x. occ_cons x c l in
    let rest : Emptied g (wipe_all g l) l =
    emptied_all g l (plain_kept h c empty) (λ x. omega (arith, once x, sum x)) (λ x b. omega (arith, (wiped_one h c).slots_length, inside x (omega (arith, sum x)))) in
    record {
      slots_in = λ x s b i.
          by_cases (ℕ_discrete (occ x l) 0)
          (λ z.
          let e : x ≡ c = occ_single x c (omega (arith, sum x)) in
          (wiped g l).slots_out x s b z ∙ ap (λ (d : ℕ). slot_of g d s) e ∙ wiped_in h c empty s b)
          (λ n. rest.slots_in x s b (omega arith));
      slots_occ = λ y. omega (
        arith,
        rest.slots_occ y,
        wiped_occ h c empty (inside c (omega (arith, occ_here c l))) y,
        held_by_others h c l (omega (arith, once c, occ_here c l)) (suc y),
      );
    }
