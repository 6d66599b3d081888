-- The test of the running root by the tests that a program makes.
-- Assumes nothing.
use Rattle.std.specs.Prelude.{ℕ, zero, suc, ◌≤◌, ◌<◌, true, false, ◌≢◌, ◌≡◌, refl, leb}
use Rattle.std.proofs.Common.{arith, lt-ltb, le-ltb}
use Rattle.rules.specs.Check.{running_ok}

pub running_none : (r n : ℕ) → r ≡ 0 → running_ok r n ≡ true
unfolding running_ok
running_none r n e = rw e refl

pub running_high : (r n : ℕ) → 64 < r → running_ok r n ≡ false
unfolding running_ok
running_high zero n h = absurd (omega arith)
running_high (suc r) n h = rw (le-ltb r 64 (omega arith)) refl

pub running_some : (r n : ℕ) → r ≢ 0 → r ≤ 64 → running_ok r n ≡ leb 1 n
unfolding running_ok
running_some zero n h l = absurd (h refl)
running_some (suc r) n h l = rw (lt-ltb r 64 (omega arith)) refl
