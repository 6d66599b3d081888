-- COLLECT's first round, table by table: references come off their targets' counts. Where every one of them is counted, each count falls by just what
-- comes off it.
-- Assumes nothing.
use Rattle.std.specs.Prelude.{ℕ, zero, suc, ◌+◌, ◌≤◌, ◌<◌, ◌≡◌, refl, length, get_or, set}
use Rattle.std.proofs.Common.{arith, sym, ◌∙◌, length-set, get_or-set_same, get_or-set_other}
use Rattle.std.proofs.Math.Decide.{ℕ_discrete}
use mathlib.Core.List.{List, [], ◌∷◌, ◌++◌}
use Rattle.std.proofs.Math.Path.{ap}
use Rattle.std.proofs.Math.Logic.{by_cases}
use Rattle.rules.specs.Lists.{occ}
use Rattle.rules.specs.Heap.{Heap, count_of, slots_of, set_count}
use Rattle.rules.specs.Release.{decremented}
use Rattle.rules.specs.Collect.{lower_all, unlink_all}
use Rattle.laws.specs.Lists.Tables.{by_cell, inside}
use Rattle.laws.specs.Lists.Occ.{occ_nil, occ_here, occ_cons, occ_one, occ_other}

-- ---- a count that falls by one

pub decremented_one : (n : ℕ) → 1 ≤ n → decremented n + 1 ≡ n
unfolding decremented
decremented_one zero some = absurd (omega arith)
decremented_one (suc n) some = omega arith

lower_at : (l : List ℕ) (i : ℕ) → 1 ≤ get_or l i 0 → (c : ℕ) → get_or (set l i (decremented (get_or l i 0))) c 0 + occ c (i ∷ []) ≡ get_or l c 0
lower_at l i some =
    by_cell i (omega (arith, get_or-set_same l i (decremented (get_or l i 0)) 0 (inside l i some), occ_one i i refl, decremented_one (get_or l i 0) some))
    (λ c n. omega (arith, get_or-set_other l i c (decremented (get_or l i 0)) 0 n, occ_other c i n))

-- ---- references come off

-- only the counts differ, each by what came off it
pub record Lowered (h after : Heap) (less : ℕ → ℕ) : Type 0 where
  pub kind : after.kind ≡ h.kind
  pub flags : after.flags ≡ h.flags
  pub slots : after.slots ≡ h.slots
  pub roots : after.roots ≡ h.roots
  pub queue : after.queue ≡ h.queue
  pub control : after.control ≡ h.control
  pub count_length : length after.count ≡ length h.count
  pub count : (x : ℕ) → count_of after x + less x ≡ count_of h x

lowered_then : (h g k : Heap) (f e t : ℕ → ℕ) → ((x : ℕ) → f x + e x ≡ t x) → Lowered h g f → Lowered g k e → Lowered h k t
lowered_then h g k f e t sum a b = record {
  kind = b.kind ∙ a.kind;
  flags = b.flags ∙ a.flags;
  slots = b.slots ∙ a.slots;
  roots = b.roots ∙ a.roots;
  queue = b.queue ∙ a.queue;
  control = b.control ∙ a.control;
  count_length = b.count_length ∙ a.count_length;
  count = λ x. omega (arith, a.count x, b.count x, sum x);
}

lowered_none : (h : Heap) (t : ℕ → ℕ) → ((x : ℕ) → t x ≡ 0) → Lowered h h t
lowered_none h t z = record { kind = refl; flags = refl; slots = refl; roots = refl; queue = refl; control = refl; count_length = refl; count = λ x. omega (arith, z x) }

lowered_one : (h : Heap) (c : ℕ) → 1 ≤ count_of h c → Lowered h (set_count h c (decremented (count_of h c))) (λ x. occ x (c ∷ []))
unfolding set_count
lowered_one h c some = record {
  kind = refl;
  flags = refl;
  slots = refl;
  roots = refl;
  queue = refl;
  control = refl;
  count_length = length-set h.count c _;
  count = lower_at h.count c some;
}

-- a reference names a cell exactly where their numbers do
occ_suc : (x c : ℕ) → occ (suc x) (suc c ∷ []) ≡ occ x (c ∷ [])
occ_suc x c = by_cases (ℕ_discrete x c) (λ e. occ_one (suc x) (suc c) (ap suc e) ∙ sym (occ_one x c e)) (λ n. occ_other (suc x) (suc c) (λ e. n (omega arith)) ∙ sym (occ_other x c n))

-- the references l are to come off, and every one of them is counted
pub record Covered (count l : List ℕ) : Type 0 where
  pub covers : (x : ℕ) → occ (suc x) l ≤ get_or count x 0

module _ (h : Heap) where
  pub covered_empty : (l : List ℕ) → Covered h.count (0 ∷ l) → Covered h.count l
  covered_empty l v = record { covers = λ x. omega (arith, v.covers x, occ_cons (suc x) 0 l) }

  -- the first one meets no count of zero, and the others are counted still
  pub covered_first : (c : ℕ) (l : List ℕ) → Covered h.count (suc c ∷ l) → 1 ≤ count_of h c
  covered_first c l v = omega (arith, v.covers c, occ_here (suc c) l)

  pub covered_rest : (c : ℕ) (l : List ℕ) → Covered h.count (suc c ∷ l) → Covered (set_count h c (decremented (count_of h c))).count l
  covered_rest c l v = record {
    covers = λ x. omega (arith, v.covers x, (lowered_one h c (covered_first c l v)).count x, occ_cons (suc x) (suc c) l, occ_suc x c);
  }

pub lowered : (h : Heap) (l : List ℕ) → Covered h.count l → Lowered h (lower_all h l) (λ x. occ (suc x) l)
unfolding lower_all
lowered h [] v = lowered_none h _ (λ x. occ_nil (suc x))
lowered h (zero ∷ l) v =
    lowered_then h h _ (λ x. occ (suc x) (0 ∷ [])) (λ x. occ (suc x) l) _ (λ x. sym (occ_cons (suc x) 0 l))
    (lowered_none h _ (λ x. occ_other (suc x) 0 (λ e. omega arith))) (lowered h l (covered_empty h l v))
lowered h (suc c ∷ l) v =
    lowered_then h _ _ (λ x. occ x (c ∷ [])) (λ x. occ (suc x) l) _ (λ x. omega (arith, occ_cons (suc x) (suc c) l, occ_suc x c))
    (lowered_one h c (covered_first h c l v)) (lowered (set_count h c (decremented (count_of h c))) l (covered_rest h c l v))

-- references that are empty come off nothing
pub lower_none : (h : Heap) (l : List ℕ) → ((i : ℕ) → i < length l → get_or l i 0 ≡ 0) → lower_all h l ≡ h
unfolding lower_all
lower_none h [] none = refl
lower_none h (zero ∷ l) none = lower_none h l (λ i b. none (suc i) (omega arith))
lower_none h (suc r ∷ l) none = absurd (omega (arith, none 0 (omega arith)))

-- ---- the slots of cell after cell come off

-- how often the slots of a list of cells hold x
unfoldable pub held_by : List ℕ → List ℕ → ℕ → ℕ
held_by slots [] x = 0
held_by slots (c ∷ l) x = occ x (slots_of slots c) + held_by slots l x

pub held_by_append : (slots l m : List ℕ) (x : ℕ) → held_by slots (l ++ m) x ≡ held_by slots l x + held_by slots m x
unfolding held_by
held_by_append slots [] m x = omega arith
held_by_append slots (c ∷ l) m x = omega (arith, held_by_append slots l m x)

-- the slots of the cells l are to come off, and every reference in them is counted
pub record SlotsCovered (slots count l : List ℕ) : Type 0 where
  pub covers : (x : ℕ) → held_by slots l (suc x) ≤ get_or count x 0

module _ (h : Heap) (c : ℕ) (l : List ℕ) (v : SlotsCovered h.slots h.count (c ∷ l)) where
  pub slots_covered_first : Covered h.count (slots_of h.slots c)
  unfolding held_by
  slots_covered_first = record { covers = λ x. omega (arith, v.covers x) }

  pub slots_covered_rest : SlotsCovered (lower_all h (slots_of h.slots c)).slots (lower_all h (slots_of h.slots c)).count l
  unfolding held_by
  slots_covered_rest =
      let one : Lowered h (lower_all h (slots_of h.slots c)) (λ x. occ (suc x) (slots_of h.slots c)) = lowered h (slots_of h.slots c) slots_covered_first in
      record { covers = λ x. omega (arith, v.covers x, one.count x, ap (λ (k : List ℕ). held_by k l (suc x)) one.slots) }

pub unlinked : (h : Heap) (l : List ℕ) → SlotsCovered h.slots h.count l → Lowered h (unlink_all h l) (λ x. held_by h.slots l (suc x))
unfolding unlink_all held_by
unlinked h [] v = lowered_none h _ (λ x. refl)
unlinked h (c ∷ l) v =
    let s : List ℕ = slots_of h.slots c in
    let one : Lowered h (lower_all h s) (λ x. occ (suc x) s) = lowered h s (slots_covered_first h c l v) in
    lowered_then h (lower_all h s) _ (λ x. occ (suc x) s) (λ x. held_by (lower_all h s).slots l (suc x)) _
    (λ x. ap (λ (k : List ℕ). occ (suc x) s + held_by k l (suc x)) one.slots) one (unlinked (lower_all h s) l (slots_covered_rest h c l v))
