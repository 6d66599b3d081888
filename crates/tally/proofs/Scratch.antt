-- A scratch tally: the first n of k zeros, and its entries behind entry 0, which are the cells'.
-- Assumes nothing.
use Prim.Native.Nat.{ℕ, zero, suc, ◌+◌, ◌-◌, ◌≤◌, ◌<◌}
use native.Mathlib.Omega.{arith}
use mathlib.Core.List.{List}
use mathlib.Core.Path.{◌≡◌, refl, ap, ◌∙◌}
use lib.ListN.{length, get_or, take, drop, replicate, length-drop, length-replicate}
use lib.Seq.{length-take-le, take_all, get_or-drop}
use Rattle.tally.specs.Tallies.{Clear}

pub clear_length : (n k : ℕ) → n ≤ k → length (take n (replicate {A = ℕ} k 0)) ≡ n
clear_length n k l = length-take-le n (replicate {A = ℕ} k 0) (omega (arith, length-replicate {A = ℕ} k 0))

pub clear_at : (n k x : ℕ) → get_or (take n (replicate {A = ℕ} k 0)) x 0 ≡ 0
clear_at zero k x = refl
clear_at (suc n) zero x = refl
clear_at (suc n) (suc k) zero = refl
clear_at (suc n) (suc k) (suc x) = clear_at n k x

pub clear : (n k : ℕ) → n < k → Clear (take (n + 1) (replicate k 0)) n
clear n k l = record { size = clear_length (n + 1) k (omega arith); zeros = clear_at (n + 1) k }

-- the part of a list from n on
pub part_rest : (l : List ℕ) (n : ℕ) → take (length l - n) (drop n l) ≡ drop n l
part_rest l n = take_all (length l - n) (drop n l) (omega (arith, length-drop n l))

-- a tally without its entry 0
abbrev pub cells_of : List ℕ → List ℕ
cells_of tally = take (length tally - 1) (drop 1 tally)

pub cell_entry : (tally : List ℕ) (c : ℕ) → get_or (cells_of tally) c 0 ≡ get_or tally (suc c) 0
cell_entry tally c =
    let e : 1 + c ≡ suc c = omega arith in
    ap (λ (l : List ℕ). get_or l c 0) (part_rest tally 1) ∙ get_or-drop 1 tally c 0 ∙ ap (λ (n : ℕ). get_or tally n 0) e
