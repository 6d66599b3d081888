-- The used cells of one word.
-- Assumes nothing: these are definitions.
use Rattle.std.specs.Prelude.{ℕ, ◌+◌, ◌<◌, List, cond, ◌≡◌, eqb, get_or}
use Rattle.rules.specs.Words.{bit}

-- the bits of a word are the used cells from `start` on
pub record UsedWord (kind : List ℕ) (start word : ℕ) : Type 0 where
  pub bits : (i : ℕ) → i < 64 → bit word i ≡ cond (eqb (get_or kind (start + i) 0) 0) 0 1
