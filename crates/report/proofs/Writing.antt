-- The loop that writes the lines of cells: its invariant, at the start and after a turn.
-- Assumes nothing.
use Prim.Native.Nat.{ℕ, suc, ◌+◌, ◌*◌, ◌-◌, ◌≤◌, ◌<◌}
use native.Mathlib.Omega.{arith}
use mathlib.Core.List.{List, ◌++◌}
use mathlib.Core.Path.{◌≡◌, ap}
use lib.IntN.{ℤ}
use Rattle.csv_text.specs.Written.{Wrote}
use Rattle.csv_text.proofs.Written.{wrote_nothing, wrote_more}
use Rattle.rules.specs.AuditReport.{cell_line, cell_lines}

-- the lines of the cells from `first` to c stand in the buffer; `before` is what it held
pub record Writing (before : List ℕ) (heap : ℕ) (d : ℕ → ℤ) (first end : ℕ) (out : List ℕ) (at c : ℕ) : Type 0 where
  pub begun : first ≤ c
  pub bound : c ≤ end
  pub near : at ≤ 65 * (c - first)
  pub wrote : Wrote before 0 (cell_lines heap d first (c - first)) out at

pub begin : (before : List ℕ) (heap : ℕ) (d : ℕ → ℤ) (first end c : ℕ) → c ≡ first → first ≤ end → Writing before heap d first end before 0 c
unfolding cell_lines
begin before heap d first end c e h =
    let none : c - first ≡ 0 = omega arith in
    record { begun = omega arith; bound = omega arith; near = omega arith; wrote = rw none (wrote_nothing before 0) }

-- the line of cell c, after those before it
next_line_lem : (k : ℕ) (d : ℕ → ℤ) (first c : ℕ) → first ≤ c → cell_lines k d first (c + 1 - first) ≡ cell_lines k d first (c - first) ++ cell_line k c (d c)
unfolding cell_lines
next_line_lem k d first c h =
    let more : c + 1 - first ≡ suc (c - first) = omega arith in
    let here : first + (c - first) ≡ c = omega arith in
    rw more (ap (λ (x : ℕ). cell_lines k d first (c - first) ++ cell_line k x (d x)) here)

module _ {before : List ℕ} {heap : ℕ} {d : ℕ → ℤ} {first end : ℕ} {out : List ℕ} {at c : ℕ} (v : Writing before heap d first end out at c) where
  pub turn : (next : List ℕ) (r : ℕ) → c < end → Wrote out at (cell_line heap c (d c)) next r → r ≤ at + 65 → Writing before heap d first end next r (c + 1)
  turn next r h w m =
      record {
        begun = omega (arith, v.begun);
        bound = omega arith;
        near = omega (arith, v.near, v.begun);
        wrote = rw (next_line_lem heap d first c v.begun) (wrote_more _ _ _ _ _ _ _ _ v.wrote w);
      }
