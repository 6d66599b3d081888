-- `words::used::used_word` meets its contract: the bits are those of the cells from `c` on. Assumes nothing.
use Prim.Native.Nat.{◌*◌}
use Rattle.words.proofs.UsedWords.{Upper}
use Rattle.words.proofs.used.used_word.Given as goal

abbrev pub invariant-loop-c : goal.invariant-loop-c
invariant-loop-c l = Upper l.kind (64 * l.j) l.end l.c l.word
