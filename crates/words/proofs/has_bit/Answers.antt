-- `words::has_bit` meets its contract. Assumes nothing.
use Prim.Native.Nat.{ℕ}
use mathlib.Core.Path.{ap}
use lib.Dec.{eqb}
use Rattle.rules.specs.Words.{bit, bit_of}
use Rattle.words.proofs.has_bit.Goals as goal

pub returns : goal.returns
unfolding bit bit_of
returns c =
    let index = c.index-c in
    ap (λ (i : ℕ). eqb (bit_of c.args.words.now i) 1) index.ensures
