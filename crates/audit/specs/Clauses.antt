-- The tests of `possible_for`, by what each goes by: the cells, the lost references, the sum.
-- Assumes nothing: these are definitions.
use Rattle.std.specs.Prelude.{ℕ, ◌+◌, ◌*◌, Bool, [], ◌∷◌, leb}
use Rattle.rules.specs.Lists.{every}
use Rattle.rules.specs.declared.audit.Row.{Row}
use Rattle.rules.specs.Audit.{up, down, row_cells}

unfoldable pub cells_fit : ℕ → Row → Bool
cells_fit k r = every (leb k (row_cells r) ∷ leb (row_cells r) (1024 * k) ∷ [])

unfoldable pub lost_fits : ℕ → Row → Bool
lost_fits refs r = leb (r.lost + r.below) refs

unfoldable pub sum_fits : ℕ → ℕ → Row → Bool
sum_fits k refs r =
    every (leb (up r.sum + r.below) (65535 * r.above + down r.sum)
    ∷ leb (r.above + down r.sum + r.lost) (up r.sum + refs)
    ∷ leb (r.above + down r.sum) (up r.sum + 9280 * r.below)
    ∷ leb (r.above + down r.sum + 9 * k) (up r.sum + 73 * r.below + 9 * row_cells r) ∷ [])
