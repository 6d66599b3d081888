-- References tallied into a tally of zeros are those that the definition counts, and the row that they make.
-- Assumes nothing.
use Prim.Native.Nat.{ℕ, zero, suc, ◌+◌, ◌-◌, ◌≤◌, ◌<◌}
use native.Mathlib.Omega.{arith}
use mathlib.Core.List.{List, [], ◌∷◌, ◌++◌}
use mathlib.Core.Path.{◌≡◌, refl, sym, ap, ◌∙◌}
use lib.IntN.{ℤ, pos, ◌-ℤ◌, +ℤ_idr}
use lib.ListN.{length, get_or}
use Rattle.rules.specs.Lists.{occ, dangling}
use Rattle.rules.specs.declared.audit.Row.{Row}
use Rattle.rules.specs.Heap.{Heap}
use Rattle.rules.specs.Audit.{references, difference, plus, cell_row, lost_row, listed, row_to}
use Rattle.laws.specs.Sound.Tally.{counters}
use Rattle.tally.specs.Tallies.{Tallies, Clear}
use Rattle.tally.proofs.Scratch.{cells_of, cell_entry}
use Rattle.audit.specs.declared.cells.Sides.{Sides}
use Rattle.audit.specs.Cells.{minus, sides_of, Lengths}
use Rattle.audit.proofs.Bounds.{row_cells_lem}
use Rattle.audit.proofs.Columns.{row_is}

-- where the differences are the same, so are the lists and the rows of them
same_listed : (d e : ℕ → ℤ) (n : ℕ) → ((i : ℕ) → i < n → d i ≡ e i) → listed d n ≡ listed e n
unfolding listed
same_listed d e zero h = refl
same_listed d e (suc n) h = λ i. same_listed d e n (λ j m. h j (omega arith)) i ++ (h n (omega arith) i ∷ [])

same_row : (d e : ℕ → ℤ) (n : ℕ) → ((i : ℕ) → i < n → d i ≡ e i) → row_to d n ≡ row_to e n
unfolding row_to
same_row d e zero h = refl
same_row d e (suc n) h = λ i. plus (same_row d e n (λ j m. h j (omega arith)) i) (cell_row (h n (omega arith) i))

module _ {before : List ℤ} {h : Heap} {tally : List ℕ} (z : Lengths before h) (k : Clear tally (length h.count)) where
  module _ {after : List ℕ} {lost : ℕ} (t : Tallies tally (references h) after 0 lost) where
    -- the tally without its entry 0 has the references of each cell
    exact_at : (c : ℕ) → c < length h.count → minus h.count (cells_of after) c ≡ difference h c
    exact_at c m =
        let e : get_or (cells_of after) c 0 ≡ occ (suc c) (references h) =
        omega (arith, cell_entry after c, t.1.at (suc c) (omega arith) (omega (arith, k.size)), k.zeros (suc c)) in
        ap (λ (n : ℕ). pos (get_or h.count c 0) -ℤ pos n) e

    pub cells_listed : listed (minus h.count (cells_of after)) (length h.count) ≡ listed (difference h) (length h.count)
    cells_listed = same_listed _ _ (length h.count) exact_at

    -- the cells on neither side are at zero
    pub cells_row : {sides : Sides} → sides ≡ sides_of (row_to (minus h.count (cells_of after)) (length h.count))
        → (sides.below + sides.above ≤ length h.count)
        × (◌≡◌ {A = Row} (record { below = sides.below; at = length h.count - (sides.below + sides.above); above = sides.above; sum = sides.sum; lost = lost; size = 0 })
        (plus (row_to (difference h) (length h.count)) (lost_row (dangling (length h.count) (references h)))))
    cells_row {sides} s =
        let same = same_row _ _ (length h.count) exact_at in
        let many : counters tally ≡ length h.count = omega (arith, k.size) in
        let below = ap (λ (x : Sides). x.below) s ∙ ap (λ (r : Row). r.below) same in
        let above = ap (λ (x : Sides). x.above) s ∙ ap (λ (r : Row). r.above) same in
        let sum = ap (λ (x : Sides). x.sum) s ∙ ap (λ (r : Row). r.sum) same in
        let row = row_to (difference h) (length h.count) in
        let all = row_cells_lem (difference h) (length h.count) in
        let lost : lost ≡ row.lost + dangling (length h.count) (references h) = omega (arith, t.0, ap (λ (n : ℕ). dangling n (references h)) many, all.1) in
        let size : 0 ≡ row.size + 0 = omega (arith, all.2) in (
          omega (arith, below, above, all.0),
          row_is (omega (arith, below)) (omega (arith, below, above, all.0)) (omega (arith, above)) (sum ∙ sym (+ℤ_idr _)) lost size,
        )
