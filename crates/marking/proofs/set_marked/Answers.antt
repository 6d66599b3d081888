-- `marking::set_marked` meets its contract. Assumes nothing.
use Prim.Native.Nat.{ℕ, ◌/◌, ◌%◌}
use native.Mathlib.Omega.{arith}
use mathlib.Core.Path.{subst}
use lib.ListN.{set}
use Rattle.rules.specs.Words.{marks_of}
use Rattle.laws.specs.Words.Marks.{HasMarks}
use Rattle.laws.specs.Words.Setting.{or_bit, has_marked}
use Rattle.marking.proofs.set_marked.Goals as goal

pub returns : goal.returns
returns c =
    let index = c.index-c in
    let marks = c.args.marks.now in
    let i = index.result in
    λ n w h. subst (λ (x : ℕ). HasMarks n (or_bit marks (i / 64) (i % 64)) (set (marks_of n marks) x 1)) index.ensures (has_marked n marks i w (omega (arith, index.ensures)))
