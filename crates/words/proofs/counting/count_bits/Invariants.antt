-- `words::counting::count_bits` meets its contract: `count` is the number of cells that have a bit in the first words. Assumes nothing.
use Prim.Native.Nat.{◌*◌}
use mathlib.Core.Path.{◌≡◌}
use Rattle.rules.specs.Lists.{occ}
use Rattle.rules.specs.Words.{bits_of}
use Rattle.words.proofs.counting.count_bits.Given as goal

abbrev pub invariant-loop-word : goal.invariant-loop-word
invariant-loop-word l = l.count ≡ occ 1 (bits_of (64 * l.word-index) l.words)
