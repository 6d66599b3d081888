-- Rows that can be added in 64 bits.
-- Assumes nothing: these are definitions.
use Rattle.std.specs.Prelude.{◌≤◌}
use Rattle.rules.specs.declared.audit.Row.{Row}
use Rattle.rules.specs.Audit.{up, down}

-- no column is further from zero than a million millions
pub record Small (r : Row) : Type 0 where
  pub below : r.below ≤ 1000000000000
  pub at : r.at ≤ 1000000000000
  pub above : r.above ≤ 1000000000000
  pub sum_up : up r.sum ≤ 1000000000000
  pub sum_down : down r.sum ≤ 1000000000000
  pub lost : r.lost ≤ 1000000000000
  pub size : r.size ≤ 1000000000000
