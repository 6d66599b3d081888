-- `dump::table::start_of` meets its contract. Assumes nothing.
use native.Mathlib.Omega.{arith}
use Rattle.dump.proofs.Given.{edge_first, edge_before}
use Rattle.dump.proofs.table.start_of.Goals as goal

pub returns-then-i-eq0 : goal.returns-then-i-eq0
returns-then-i-eq0 c = edge_first _ _ _ (omega arith) (omega arith)

pub returns : goal.returns
returns c = edge_before _ _ _ (omega (arith, c.if-i-eq0.false))
