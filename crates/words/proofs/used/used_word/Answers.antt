-- `words::used::used_word` meets its contract: the bits are those of the cells from `c` on. Assumes nothing.
use native.Mathlib.Omega.{arith}
use Prim.Native.Nat.{◌-◌, ◌*◌}
use mathlib.Core.Path.{◌∙◌}
use Rattle.words.proofs.UsedWords.{used_most, unused, upper_none, upper_room, upper_more, upper_all}
use Rattle.words.proofs.used.used_word.Goals as goal

pub loop-c-init : goal.loop-c-init
loop-c-init c =
    upper_none c.args.kind.now (64 * c.args.j) c.min-end.result c.min-end.ensures

pub overflow_mul-word : goal.overflow_mul-word
overflow_mul-word c = omega (arith, upper_room c.loop-c.invariant c.loop-c-test.true)

pub overflow_add-word : goal.overflow_add-word
overflow_add-word c =
    let one = used_most c.args.kind.now (c.loop-c.c - 1) c.from.result (c.from.ensures ∙ unused _) in
    omega (arith, one, upper_room c.loop-c.invariant c.loop-c-test.true)

pub loop-c-preserved : goal.loop-c-preserved
loop-c-preserved c =
    upper_more c.loop-c.invariant c.from.result c.loop-c-test.true (c.from.ensures ∙ unused _)

pub returns : goal.returns
returns c = upper_all c.loop-c.invariant (omega arith)
