-- `words::used::write_used` meets its contract: the first `j` words are written. Assumes nothing.
use native.Mathlib.Omega.{arith}
use mathlib.Core.Path.{◌≡◌}
use lib.ListN.{length}
use Rattle.words.proofs.UsedWords.{below_next, below_all}
use Rattle.words.proofs.used.write_used.Goals as goal

pub loop-j-preserved : goal.loop-j-preserved
loop-j-preserved c =
    let loop = c.loop-j in
    below_next c.args.kind.now loop.words loop.j c.used_word.result (omega arith) loop.invariant c.used_word.ensures

pub returns : goal.returns
returns c =
    let loop = c.loop-j in
    let all : loop.j ≡ length loop.words = omega arith in
    below_all c.args.kind.now loop.words (omega arith) (rw all at loop.invariant)
