-- A list of the counts met between two states of the counts: none is zero, and what the counts lose is as many as the list has.
-- Assumes nothing.
use Rattle.std.specs.Prelude.{ℕ, zero, suc, ◌+◌, ◌≤◌, ◌<◌, List, [], ◌∷◌, ◌++◌, ◌≡◌, length, get_or, set}
use Rattle.std.proofs.Common.{arith, sym, ap, ◌∙◌, length-append}
use Rattle.std.proofs.lemmas.List.{set-get_or}
use Rattle.rules.specs.Lists.{occ, sum}
use Rattle.laws.specs.Lists.Tables.{inside}
use Rattle.laws.specs.Lists.Occ.{occ_nil, occ-append, occ_other}

-- ---- all counts together

-- an entry is written
pub sum-set : (l : List ℕ) (i v : ℕ) → i < length l → sum (set l i v) + get_or l i 0 ≡ sum l + v
unfolding sum
sum-set [] i v b = absurd (omega arith)
sum-set (x ∷ l) zero v b = omega arith
sum-set (x ∷ l) (suc i) v b = omega (arith, sum-set l i v (omega arith))

-- a 0 is written over a 0
pub sum_still : (l : List ℕ) (i : ℕ) → get_or l i 0 ≡ 0 → sum (set l i 0) ≡ sum l
sum_still l i z = ap sum (ap (set l i) (sym z) ∙ set-get_or l i 0)

-- ---- the list

-- from `count` to `after`; p and q are how many had joined the queue, each of which raised a count
pub record Noted (count : List ℕ) (p : ℕ) (after : List ℕ) (q : ℕ) (l : List ℕ) : Type 0 where
  pub none : occ 0 l ≡ 0
  pub balance : sum after + length l + p ≡ sum count + q

-- nothing came off
pub noted_nothing : {count after : List ℕ} {p q : ℕ} → sum after + p ≡ sum count + q → Noted count p after q []
noted_nothing e = record { none = occ_nil 0; balance = omega (arith, e) }

-- k counts rose before it
pub noted_from : {count raised after l : List ℕ} {q : ℕ} (k : ℕ) → sum raised ≡ sum count + k → Noted raised 0 after q l → Noted count 0 after (q + k) l
noted_from k e n = record { none = n.none; balance = omega (arith, n.balance, e) }

-- one count, which was not zero, becomes v
pub noted_one : (count : List ℕ) (c v p q : ℕ) → 1 ≤ get_or count c 0 → v + 1 + p ≡ get_or count c 0 + q → Noted count p (set count c v) q (get_or count c 0 ∷ [])
noted_one count c v p q some e = record {
  none = occ_other 0 (get_or count c 0) (λ z. omega arith);
  balance = omega (arith, sum-set count c v (inside count c some));
}

pub noted_then : {a b c : List ℕ} {p q r : ℕ} (l m : List ℕ) → Noted a p b q l → Noted b q c r m → Noted a p c r (l ++ m)
noted_then l m x y = record {
  none = omega (arith, occ-append 0 l m, x.none, y.none);
  balance = omega (arith, x.balance, y.balance, length-append l m);
}
