-- The columns of one cell, by the side of zero that its difference is on. Assumes nothing.
use Prim.Native.Nat.{ℕ, zero, suc}
use mathlib.Core.List.{List, [], ◌∷◌, ◌++◌, append_assoc}
use mathlib.Core.Path.{◌≡◌, refl, ap}
use lib.IntN.{ℤ, pos, negsuc}
use lib.ListN.{length}
use Rattle.csv_text.specs.Decimal.{digits, decimal_of}
use Rattle.rules.specs.Audit.{cell_row}
use Rattle.rules.specs.AuditReport.{signed_of, columns}
use Rattle.report.specs.Room.{side_text}

pub side_length : (x : ℤ) → length (side_text x) ≡ 6
side_length (pos zero) = refl
side_length (pos (suc n)) = refl
side_length (negsuc n) = refl

-- ---- the line's end after the difference: no reference lost, no heap refused

abbrev pub cell_end : List ℕ
cell_end = 44 ∷ 48 ∷ 44 ∷ 48 ∷ 13 ∷ 10 ∷ []

pub cell_text : (x : ℤ) → columns (cell_row x) ≡ side_text x ++ (signed_of x ++ cell_end)
unfolding columns decimal_of digits
cell_text (pos zero) = refl
cell_text (pos (suc n)) = ap (λ (t : List ℕ). 48 ∷ 44 ∷ 48 ∷ 44 ∷ 49 ∷ 44 ∷ t) (append_assoc (decimal_of (suc n)) (44 ∷ []) _)
cell_text (negsuc n) = ap (λ (t : List ℕ). 49 ∷ 44 ∷ 48 ∷ 44 ∷ 48 ∷ 44 ∷ 45 ∷ t) (append_assoc (decimal_of (suc n)) (44 ∷ []) _)
