-- What n cells add up to, whatever their differences are: each is below, at or above zero, and none has more than its difference.
-- Assumes nothing.
use Prim.Native.Nat.{ℕ, zero, suc, ◌*◌, ◌≤◌}
use native.Mathlib.Omega.{arith}
use mathlib.Core.Path.{◌≡◌, refl, ap}
use lib.IntN.{ℤ, pos, negsuc}
use Rattle.rules.specs.Audit.{up, down, cell_row, row_to, row_cells}
use Rattle.laws.specs.Audit.Integers.{less_sum}

-- ---- one cell

pub sum_column : (z : ℤ) → (cell_row z).sum ≡ z
sum_column (pos zero) = refl
sum_column (pos (suc n)) = refl
sum_column (negsuc n) = refl

one_cell : (z : ℤ) → (row_cells (cell_row z) ≡ 1) × ((cell_row z).lost ≡ 0) × ((cell_row z).size ≡ 0)
one_cell (pos zero) = omega arith
one_cell (pos (suc n)) = omega arith
one_cell (negsuc n) = omega arith

-- ---- n cells

pub row_cells_lem : (d : ℕ → ℤ) (n : ℕ) → (row_cells (row_to d n) ≡ n) × ((row_to d n).lost ≡ 0) × ((row_to d n).size ≡ 0)
unfolding row_to
row_cells_lem d zero = omega arith
row_cells_lem d (suc n) = omega (arith, row_cells_lem d n, one_cell (d n))

-- with differences of 16 bits
pub row_sum : (d : ℕ → ℤ) → ((i : ℕ) → (up (d i) ≤ 65535) × (down (d i) ≤ 65535)) → (n : ℕ) → (up (row_to d n).sum ≤ 65535 * n) × (down (row_to d n).sum ≤ 65535 * n)
unfolding row_to
row_sum d h zero = omega arith
row_sum d h (suc n) =
    let s = less_sum (row_to d n).sum (cell_row (d n)).sum in
    let e = sum_column (d n) in
    omega (arith, s.over, s.missing, row_sum d h n, h n, ap up e, ap down e)
