-- The loop that compares count and references of each cell: the loop's invariant, at the start and after a turn, and that there is room for a turn.
-- Assumes nothing.
use Prim.Native.Nat.{ℕ, ◌+◌, ◌≤◌, ◌<◌}
use native.Mathlib.Omega.{arith}
use native.Mathlib.Numerals.{add-one}
use mathlib.Core.List.{List, [], ◌∷◌, ◌++◌}
use mathlib.Core.Path.{◌≡◌, refl, ◌∙◌}
use lib.IntN.{ℤ, pos}
use lib.ListN.{length, take, set, length-set}
use lib.Seq.{take-suc-set}
use Rattle.rules.specs.Audit.{up, down, cell_row, listed, row_to}
use Rattle.audit.specs.declared.cells.Sides.{Sides}
use Rattle.audit.specs.Cells.{sides_of, sides_plus}
use Rattle.audit.proofs.Bounds.{row_cells_lem, row_sum}

-- of n cells the first c are done, by the differences d
pub record Comparing (d : ℕ → ℤ) (n : ℕ) (table : List ℤ) (sides : Sides) (c : ℕ) : Type 0 where
  pub bound : c ≤ n
  pub long : length table ≡ n
  pub written : take c table ≡ listed d c
  pub added : sides ≡ sides_of (row_to d c)

pub comparing_begin : (d : ℕ → ℤ) (table : List ℤ) {n : ℕ} → length table ≡ n → Comparing d n table (record { below = 0; above = 0; sum = pos 0 }) 0
unfolding listed row_to
comparing_begin d table e = record { bound = omega arith; long = e; written = refl; added = refl }

-- there is room for one more cell
pub room_for_cell : (d : ℕ → ℤ) → ((i : ℕ) → (up (d i) ≤ 65535) × (down (d i) ≤ 65535)) → (c : ℕ) → c < 1024
    → ((row_to d c).below < 1024) × ((row_to d c).above < 1024) × (up (row_to d c).sum ≤ 67107840) × (down (row_to d c).sum ≤ 67107840)
room_for_cell d h c m =
    let cells = (row_cells_lem d c).0 in
    let sum = row_sum d h c in
    (omega (arith, cells), omega (arith, cells), omega (arith, sum.0), omega (arith, sum.1))

module _ {d : ℕ → ℤ} {n : ℕ} {table : List ℤ} {sides : Sides} {c : ℕ} (v : Comparing d n table sides c) where
  pub comparing_turn : (x : ℤ) (next : Sides) → c < n → x ≡ d c → next ≡ sides_plus sides (cell_row (d c)) → Comparing d n (set table c x) next (c + 1)
  unfolding listed row_to
  comparing_turn x next h e s =
      record {
        bound = omega arith;
        long = length-set table c x ∙ v.long;
        written = rw add-one (take-suc-set table c x (omega (arith, v.long)) ∙ (λ i. v.written i ++ (e i ∷ [])));
        added = rw add-one (s ∙ (λ i. sides_plus (v.added i) (cell_row (d c))));
      }
