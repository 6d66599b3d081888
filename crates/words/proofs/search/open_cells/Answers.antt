-- `words::search::open_cells` meets its contract. Assumes nothing.
use native.Mathlib.Omega.{arith}
use mathlib.Core.Path.{◌∙◌}
use Rattle.words.proofs.Left.{left_within, left_listed}
use Rattle.words.proofs.search.open_cells.Goals as goal

pub open_left-requires-clause-cells_bound : goal.open_left-requires-clause-cells_bound
open_left-requires-clause-cells_bound c = (omega arith, omega arith, omega arith)

pub open_left-requires-clause-some_from : goal.open_left-requires-clause-some_from
open_left-requires-clause-some_from c = (0, left_within c.from_first.ensures (omega arith))

pub returns : goal.returns
returns c = c.open_left.ensures ∙ left_listed (left_within c.from_first.ensures (omega arith))
