-- Laws of integers: the two sides of zero.
-- Assumes nothing.
use Prim.Native.Nat.{ℕ, ◌+◌, ◌≤◌}
use native.Mathlib.Omega.{arith}
use lib.IntN.{ℤ, pos, negsuc}
use Rattle.rules.specs.Audit.{up, down}

-- one of the two sides is 0, so a bound of their difference is one of both
pub sides_within : (b : ℕ) (z : ℤ) → up z ≤ b + down z → down z ≤ b + up z → (up z ≤ b) × (down z ≤ b)
sides_within b (pos n) h l = (omega arith, omega arith)
sides_within b (negsuc n) h l = (omega arith, omega arith)
