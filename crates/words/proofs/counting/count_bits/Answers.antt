-- `words::counting::count_bits` meets its contract: `count` is the number of cells that have a bit in the first words. Assumes nothing.
use Prim.Native.Nat.{ℕ, ◌*◌}
use native.Mathlib.Omega.{arith}
use mathlib.Core.Path.{◌≡◌, refl, ap, ◌∙◌}
use lib.Count.{ones-le}
use lib.ListN.{length, get_or}
use Rattle.rules.specs.Lists.{occ, tabulate}
use Rattle.rules.specs.Words.{bits_of}
use Rattle.laws.specs.Words.Count.{count_le, count_word}
use Rattle.words.proofs.counting.count_bits.Goals as goal

pub loop-word-init : goal.loop-word-init
unfolding bits_of tabulate occ
loop-word-init c = refl

pub overflow_add-count : goal.overflow_add-count
overflow_add-count c =
    let j = c.loop-word.word-index in
    let words = c.args.words.now in
    omega (arith, ones-le 64 (get_or words j 0) (c.type_inv.words j).fits, count_le (64 * j) words)

pub loop-word-preserved : goal.loop-word-preserved
loop-word-preserved c =
    let j = c.loop-word.word-index in
    omega (arith, count_word c.args.words.now j (c.type_inv.words j).fits)

pub returns : goal.returns
returns c =
    let words = c.args.words.now in
    let e : c.loop-word.word-index ≡ length words = omega arith in
    c.loop-word.invariant ∙ ap (λ (k : ℕ). occ 1 (bits_of (64 * k) words)) e
