-- `words::search::from_first` meets its contract. Assumes nothing.
use native.Mathlib.Omega.{arith}
use mathlib.Core.Path.{refl}
use Rattle.words.proofs.OpenWords.{ahead_word}
use Rattle.words.proofs.search.from_first.Goals as goal

pub returns : goal.returns
returns c = λ n l. (omega arith, ahead_word c.open_bits.ensures 0 refl)
