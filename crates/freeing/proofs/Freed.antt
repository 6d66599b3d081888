-- The code's tests and writes in the rules' words: which kinds are plain, and what is left of a cell that was freed.
-- Assumes nothing.
use Prim.Native.Nat.{ℕ, ◌≤◌}
use native.Mathlib.Decide.{ℕ_discrete}
use native.Mathlib.Omega.{arith}
use mathlib.Core.List.{List}
use mathlib.Core.Bool.{true, false}
use mathlib.Core.Logic.{inl, inr, by_cases}
use mathlib.Core.Path.{◌≡◌, sym, ap, ◌∙◌}
use lib.ListN.{set}
use Rattle.rules.specs.Heap.{Heap, tables, kind_of, plain, wiped_slots, wipe}
use Rattle.laws.specs.Lists.Tests.{fails}
use Rattle.laws.specs.Freeing.{kinds_plain, plain_kinds, plain_between}

-- ---- the kinds, as bounds: a test for another kind is then refuted by a number

pub is_plain : (k : ℕ) → 2 ≤ k → k ≤ 3 → true ≡ plain k
is_plain k low high = sym (kinds_plain k (by_cases (ℕ_discrete k 2) (λ e. inl e) (λ n. inr (omega arith))))

pub not_plain : (k : ℕ) → (2 ≤ k → k ≤ 3 → ⊥) → false ≡ plain k
not_plain k out = sym (fails (plain k) (λ e. let in_bounds = plain_between k (plain_kinds k e) in out in_bounds.0 in_bounds.1))

-- ---- the cell

-- the entry i, which is the cell's, has become x, which is 0
cleared : (l : List ℕ) (i c x : ℕ) → i ≡ c → x ≡ 0 → set l i x ≡ set l c 0
cleared l i c x at zero = ap (set l i) zero ∙ ap (λ (j : ℕ). set l j 0) at

-- the slots go by the kind that the cell had
pub freed : (h : Heap) (s : List ℕ) (i c a b d old : ℕ) → i ≡ c → a ≡ 0 → b ≡ 0 → d ≡ 0 → old ≡ kind_of h c → s ≡ wiped_slots old h.slots c
    → tables (set h.kind i a) (set h.flags i b) (set h.count i d) s h.roots h.queue h.control ≡ wipe h c
unfolding wipe
freed h s i c a b d old at kind flags count was slots =
    let slots₁ : s ≡ wiped_slots (kind_of h c) h.slots c = slots ∙ ap (λ (x : ℕ). wiped_slots x h.slots c) was in
    λ j. tables (cleared h.kind i c a at kind j) (cleared h.flags i c b at flags j) (cleared h.count i c d at count j) (slots₁ j) h.roots h.queue h.control
