-- `words::search::from_cell` meets its contract. Assumes nothing.
use native.Mathlib.Omega.{arith}
use mathlib.Core.Path.{refl, sym}
use Rattle.words.proofs.OpenWords.{ahead_cell}
use Rattle.words.proofs.search.from_cell.Goals as goal

pub returns : goal.returns
returns c =
    let index = c.index-c in
    λ n l. (omega (arith, index.ensures), rw (sym index.ensures) (ahead_cell c.open_bits-open.ensures index.result refl (omega arith)))
