-- `sweep::cells::is_rescued` meets its contract. Assumes nothing.
use Prim.Native.Nat.{ℕ}
use native.Mathlib.Omega.{arith}
use mathlib.Core.Path.{sym, ap, ◌∙◌}
use lib.ListN.{length, get_or}
use lib.Dec.{eqb}
use borrow.Author.Tests.{eq-eqb}
use Rattle.laws.specs.Words.Cells.{get_or-bits_of}
use Rattle.sweep.proofs.cells.is_rescued.Goals as goal

pub returns-then-flags-index-eq3 : goal.returns-then-flags-index-eq3
returns-then-flags-index-eq3 c =
    let flags = c.args.flags.now in
    let cell = c.args.cell.0 in
    let at_cell = ap (λ (i : ℕ). get_or flags i 0) c.index.ensures in
    let mark = get_or-bits_of (length flags) c.args.marked.now cell c.requires.cell_in_bounds in
    rw (eq-eqb (get_or flags cell 0) 3 (omega arith)) (c.has_bit.ensures ∙ ap (λ (x : ℕ). eqb x 1) (sym mark))
