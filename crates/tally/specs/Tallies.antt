-- What tallying references comes to.
-- Assumes nothing: these are definitions.
use Rattle.std.specs.Prelude.{ℕ, ◌+◌, ◌≡◌, List, length, get_or}
use Rattle.rules.specs.Lists.{dangling}
use Rattle.laws.specs.Sound.Tally.{counters, Tallied}

-- `before` and `after` are the tally, `lost` and r how many references so far name no cell
abbrev pub Tallies : List ℕ → List ℕ → List ℕ → ℕ → ℕ → Type 0
Tallies before l after lost r = (r ≡ lost + dangling (counters before) l) × Tallied before l after

-- a tally of zeros for n cells
pub record Clear (tally : List ℕ) (n : ℕ) : Type 0 where
  pub size : length tally ≡ n + 1
  pub zeros : (x : ℕ) → get_or tally x 0 ≡ 0
