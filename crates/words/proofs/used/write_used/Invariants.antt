-- `words::used::write_used` meets its contract: the first `j` words are written. Assumes nothing.
use Rattle.words.proofs.UsedWords.{UsedBelow}
use Rattle.words.proofs.used.write_used.Given as goal

abbrev pub invariant-loop-j : goal.invariant-loop-j
invariant-loop-j l = UsedBelow l.kind l.words l.j
