-- The lowest free cell, which NEW takes: it is free, each lower one is used, and where all are used it is the number of cells.
-- Assumes nothing.
use Rattle.std.specs.Prelude.{ℕ, zero, suc, ◌≤◌, ◌<◌, List, [], ◌∷◌, ◌≡◌, refl, length, get_or}
use Rattle.std.proofs.Math.Decide.{dec_lt}
use Rattle.std.proofs.Common.{arith}
use Rattle.std.proofs.Math.Logic.{by_cases}
use Rattle.rules.specs.Refusals.{lowest_free}

-- at most the list's length; below it, the entry there is 0; and no lower one is
pub lowest_le : (l : List ℕ) → lowest_free l ≤ length l
unfolding lowest_free
lowest_le [] = omega arith
lowest_le (zero ∷ l) = omega arith
lowest_le (suc k ∷ l) = omega (arith, lowest_le l)

pub lowest_free_lem : (l : List ℕ) → lowest_free l < length l → get_or l (lowest_free l) 0 ≡ 0
unfolding lowest_free
lowest_free_lem [] h = refl
lowest_free_lem (zero ∷ l) h = refl
lowest_free_lem (suc k ∷ l) h = lowest_free_lem l (omega arith)

pub lowest_used : (l : List ℕ) (c : ℕ) → c < lowest_free l → 1 ≤ get_or l c 0
unfolding lowest_free
lowest_used [] c h = absurd (omega arith)
lowest_used (zero ∷ l) c h = absurd (omega arith)
lowest_used (suc k ∷ l) zero h = omega arith
lowest_used (suc k ∷ l) (suc c) h = lowest_used l c (omega arith)

-- where no entry is 0, the list's length
pub lowest_none : (l : List ℕ) → ((c : ℕ) → c < length l → 1 ≤ get_or l c 0) → lowest_free l ≡ length l
lowest_none l used =
    by_cases (dec_lt (lowest_free l) (length l))
    (λ m. absurd (omega (arith, lowest_free_lem l m, used (lowest_free l) m)))
    (λ n. omega (arith, lowest_le l))
