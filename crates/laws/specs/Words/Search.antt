-- Laws of the lowest number that passes a test, and the theorem that a search through words finds the lowest used cell that is not marked.
-- Assumes nothing.
use Rattle.std.specs.Prelude.{ℕ, zero, suc, ◌+◌, ◌-◌, ◌≤◌, ◌<◌, List, Bool, true, false, not, ◌&&◌, cond, ◌≡◌, refl, eqb, length, get_or}
use Rattle.std.proofs.Math.Decide.{ℕ_discrete, dec_lt}
use Rattle.std.proofs.Common.{arith, sym, ap, ◌∙◌}
use Rattle.rules.specs.Depth.{first_from}
use Rattle.rules.specs.Words.{bit_of, bits_of, is_open, next_open, UsedBits, LowestFrom, FindsLowest}
use Rattle.laws.specs.Lists.Tests.{clash}
use Rattle.laws.specs.Words.Cells.{get_or-bits_of}

-- that there is none says no more than the rest
pub lowest_from : {p : ℕ → Bool} {from n r : ℕ} → (from ≤ r) × (r ≤ n) → (r < n → p r ≡ true) → ((d : ℕ) → from ≤ d → d < r → p d ≡ false)
    → LowestFrom p from n r
lowest_from {p} {from} {n} {r} within passes lowest = record {
  within = within;
  passes = passes;
  lowest = lowest;
  none = (
    λ e d a b. lowest d a (omega arith),
    λ none. elim (dec_lt r n) [ yes l ↦ clash (passes l) (none r within.0 l) | no f ↦ omega arith ],
  );
}

first_of : (p : ℕ → Bool) (k from : ℕ) → LowestFrom p from (from + k) (first_from p from k)
unfolding first_from
first_of p zero from = lowest_from (omega arith) (λ l. absurd (omega arith)) (λ d a b. absurd (omega arith))
first_of p (suc k) from = go (p from) refl (first_from p (suc from) k) (first_of p k (suc from))
  where
    go : (b : Bool) → p from ≡ b → (r : ℕ) → LowestFrom p (suc from) (suc from + k) r → LowestFrom p from (from + suc k) (cond b from r)
    go true e r rest = lowest_from (omega arith) (λ _. e) (λ d a b. absurd (omega arith))
    go false e r rest =
        lowest_from (omega (arith, rest.within)) (λ l. rest.passes (omega arith))
        (λ d a b. elim (ℕ_discrete d from) [ yes z ↦ ap p z ∙ e | no f ↦ rest.lowest d (omega (arith, f)) b ])

pub first_law : (p : ℕ → Bool) (from n : ℕ) → from ≤ n → LowestFrom p from n (first_from p from (n - from))
first_law p from n l =
    let e : from + (n - from) ≡ n = omega arith in
    rw e at (first_of p (n - from) from)

-- there is only one lowest
pub first_only : {p : ℕ → Bool} {from n r s : ℕ} → LowestFrom p from n r → LowestFrom p from n s → r ≡ s
first_only {p} {from} {n} {r} {s} a b = elim (dec_lt r s) [
  | yes l ↦ clash (a.passes (omega (arith, b.within))) (b.lowest r a.within.0 l)
  | no f ↦ elim (dec_lt s r) [
    | yes l ↦ clash (b.passes (omega (arith, a.within))) (a.lowest s b.within.0 l)
    | no g ↦ omega arith
  ]
]

-- tests that agree have the same lowest
pub lowest_same : {p q : ℕ → Bool} {from n r : ℕ} → ((c : ℕ) → c < n → p c ≡ q c) → LowestFrom p from n r → LowestFrom q from n r
lowest_same {p} {q} {from} {n} {r} same a =
    lowest_from a.within (λ l. sym (same r l) ∙ a.passes l) (λ d g l. sym (same d (omega (arith, a.within))) ∙ a.lowest d g l)

-- the lowest open cell
pub open_law : (words marks : List ℕ) (from n : ℕ) → from ≤ n → LowestFrom (is_open words marks) from n (next_open words marks from n)
unfolding next_open
open_law words marks from n l = first_law (is_open words marks) from n l

-- a used cell has its bit
used_test : (b : Bool) → eqb (cond b 0 1) 1 ≡ not b
used_test true = refl
used_test false = refl

-- a cell that is open among the used ones: it is used, and the plain marks have not marked it
pub open_unmarked : (kind used marks : List ℕ) → UsedBits kind used → (c : ℕ) → c < length kind
    → is_open used marks c ≡ (not (eqb (get_or kind c 0) 0) && eqb (get_or (bits_of (length kind) marks) c 0) 0)
unfolding is_open
open_unmarked kind used marks u c h =
    let bit : eqb (bit_of used c) 1 ≡ not (eqb (get_or kind c 0) 0) = ap (λ (x : ℕ). eqb x 1) (u c) ∙ used_test (eqb (get_or kind c 0) 0) in
    let mark : eqb (bit_of marks c) 0 ≡ eqb (get_or (bits_of (length kind) marks) c 0) 0 = ap (λ (x : ℕ). eqb x 0) (sym (get_or-bits_of (length kind) marks c h)) in
    λ i. bit i && mark i

pub finds_lowest : FindsLowest
finds_lowest kind used marks u from l = lowest_same (open_unmarked kind used marks u) (open_law used marks from (length kind) l)
