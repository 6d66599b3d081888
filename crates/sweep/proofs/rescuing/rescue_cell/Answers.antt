-- `sweep::rescuing::rescue_cell` meets its contract. Assumes nothing.
use Prim.Native.Nat.{ℕ}
use mathlib.Core.Path.{ap, sym, ◌∙◌}
use lib.ListN.{set}
use Rattle.sweep.proofs.Rescues.{rescued_none, rescued_one}
use Rattle.sweep.proofs.rescuing.rescue_cell.Goals as goal

pub returns-then-not-is_rescued : goal.returns-then-not-is_rescued
returns-then-not-is_rescued c =
    rescued_none c.args.cell.0 (sym c.is_rescued.ensures ∙ c.if-not-is_rescued.true)

pub returns : goal.returns
returns c =
    let one = ap (λ (i : ℕ). set c.args.flags.now i 1) c.index.ensures in
    rescued_one c.args.cell.0 (sym c.is_rescued.ensures ∙ c.if-not-is_rescued.false) one
