-- `allocation::placing::lowest_free` meets its contract: the place of the first 0 is the lowest free cell.
-- Assumes nothing.
use Rattle.std.proofs.Common.{ℕ, ◌+◌, ◌∷◌, zero, suc, ◌≤◌, ◌≡◌, List, length, cond, eqb, ltb, Some, None, refl, rules, arith, tests}
use Rattle.std.specs.List.{position_or_len}
use Rattle.std.proofs.lemmas.Iterator.{YieldsList-from_slice}
use Rattle.std.proofs.lemmas.Iterator.Search.{position_from_yields_List}
use Rattle.std.proofs.lemmas.List.Recursion.{is_position_or_len}
use Rattle.rules.specs.Refusals.{lowest_free}
use Rattle.allocation.proofs.placing.lowest_free.Goals as goal
use Rattle.allocation.proofs.placing.lowest_free.Goals.{After-position}

first_0 : (kind : List ℕ) → lowest_free kind ≡ position_or_len (λ k. eqb k 0) kind
unfolding lowest_free
first_0 = is_position_or_len lowest_free (λ k. eqb k 0) refl by_entry
  where
    by_entry : (k : ℕ) (kind : List ℕ) → lowest_free (k ∷ kind) ≡ cond (eqb k 0) 0 (1 + lowest_free kind)
    by_entry zero kind = refl
    by_entry (suc k) kind = grind arith

none_free : (p n : ℕ) → None ≡ cond (ltb p n) (Some p) None → n ≤ p
none_free p n e = grind arith

some_free : (p n free : ℕ) → Some free ≡ cond (ltb p n) (Some p) None → free ≡ p
some_free p n free e = grind arith

found : (c : After-position) → let free = lowest_free c.args.kind.now in c.position.result ≡ cond (ltb free (length c.args.kind.now)) (Some free) None
found c =
    rw (first_0 c.args.kind.now)
    (position_from_yields_List (λ k. eqb k 0) _ _ _ c.position.ensures.ran (YieldsList-from_slice c.args.kind.now cc) (λ x b q k. search (rules, tests)))

pub returns-in_err-free : goal.returns-in_err-free
returns-in_err-free c =
    let is = found (goal.at.returns-in_err-free c).After-position in
    rw c.from_residual.ensures (none_free _ _ (rw c.in_err-free.was at is))

pub returns : goal.returns
returns c =
    let is = found (goal.at.returns c).After-position in
    rw (← some_free _ _ _ (rw c.in_ok-free.was at is)) c.of.ensures
