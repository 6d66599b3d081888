-- Tables one after another: how many entries they have, and where each stands. Assumes nothing.
use Prim.Native.Nat.{ℕ, zero, suc, ◌+◌, ◌-◌, ◌≤◌, ◌<◌}
use native.Mathlib.Omega.{arith}
use mathlib.Core.Path.{◌≡◌, refl, sym, ◌∙◌, ap}
use mathlib.Core.List.{List, [], ◌∷◌, ◌++◌, append_assoc, append-nil}
use lib.ListN.{length, get_or, take, drop, length-append}
use lib.Seq.{take_at, drop-append-add}
use Rattle.dump.specs.Holding.{size, joined}

pub size_joined : (ts : List (List ℕ)) → length (joined ts) ≡ size ts
unfolding size joined
size_joined [] = refl
size_joined (t ∷ ts) = omega (arith, length-append t (joined ts), size_joined ts)

pub size_last : (ts : List (List ℕ)) (t : List ℕ) → size (ts ++ (t ∷ [])) ≡ size ts + length t
unfolding size
size_last [] t = omega arith
size_last (u ∷ ts) t = omega (arith, size_last ts t)

pub joined_last : (ts : List (List ℕ)) (t : List ℕ) → joined (ts ++ (t ∷ [])) ≡ joined ts ++ t
unfolding joined
joined_last [] t = append-nil t
joined_last (u ∷ ts) t = ap (λ (l : List ℕ). u ++ l) (joined_last ts t) ∙ sym (append_assoc u (joined ts) t)

-- the first i tables have no more entries than all
pub size_first : (ts : List (List ℕ)) (i : ℕ) → size (take i ts) ≤ size ts
unfolding size
size_first ts zero = omega arith
size_first [] (suc i) = omega arith
size_first (t ∷ ts) (suc i) = omega (arith, size_first ts i)

pub size_next : (ts : List (List ℕ)) (i : ℕ) → size (take i ts) ≤ size (take (suc i) ts)
unfolding size
size_next ts zero = omega arith
size_next [] (suc i) = omega arith
size_next (t ∷ ts) (suc i) = omega (arith, size_next ts i)

-- table i stands where the first i end
pub table_at : (ts : List (List ℕ)) (more d : List ℕ) (i from to : ℕ) → i < length ts → from ≡ size (take i ts) → to ≡ size (take (suc i) ts)
    → take (to - from) (drop from (joined ts ++ more)) ≡ get_or ts i d
unfolding size joined
table_at [] more d i from to h e f = absurd (omega arith)
table_at (t ∷ ts) more d zero from to h e f =
    let count : length t ≡ to - from = omega arith in
    rw (e, append_assoc t (joined ts) more) (take_at t (joined ts ++ more) (to - 0) (omega arith))
table_at (t ∷ ts) more d (suc i) from to h e f =
    let size' : ℕ = size (take i ts) in
    let start : from ≡ length t + size' = e in
    rw (start, append_assoc t (joined ts) more, drop-append-add t (joined ts ++ more) size')
    (let count : to - (length t + size') ≡ (to - length t) - size' = omega arith in
    rw count (table_at ts more d i size' (to - length t) (omega arith) refl (omega arith)))
