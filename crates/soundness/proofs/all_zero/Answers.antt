-- `soundness::all_zero` meets its contract. The law is in `Folds`.
-- Assumes nothing.
use mathlib.Core.Path.{◌≡◌, ap, ◌∙◌}
use lib.Bits.{bit_or}
use lib.Dec.{eqb}
use Prim.Native.Nat.{ℕ}
use Rattle.std.specs.List.{fold}
use Rattle.std.proofs.Common.{rules}
use Rattle.soundness.proofs.Folds.{fold_joined}
use Rattle.soundness.proofs.all_zero.Goals as goal

pub returns : goal.returns
returns c =
    let e : c.fold.result ≡ fold bit_or 0 c.args.table.now = search rules in
    ap (λ (n : ℕ). eqb n 0) e ∙ fold_joined c.args.table.now
