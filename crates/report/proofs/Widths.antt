-- How many bytes the texts of a report take.
-- Assumes nothing.
use Prim.Native.Nat.{ℕ, zero, suc, ◌+◌, ◌^◌, ◌≤◌, ◌<◌}
use native.Mathlib.Omega.{arith}
use mathlib.Core.List.{[], ◌∷◌, ◌++◌}
use lib.IntN.{ℤ, pos, negsuc, nat_abs}
use lib.ListN.{length, length-append}
use lib.Signed.{mag}
use Rattle.csv_text.specs.Decimal.{decimal_of, field_text, last_text}
use Rattle.csv_text.proofs.Decimal.{decimal_digits, field_width, last_width}
use Rattle.rules.specs.declared.audit.Row.{Row}
use Rattle.rules.specs.Audit.{cell_row}
use Rattle.rules.specs.AuditReport.{signed_field, columns, cell_line, heap_line, totals_line}
use Rattle.rules.specs.Audit.{Holds}

-- a sum of at most k + 1 digits, with its sign and a comma
signed_width : (k : ℕ) (x : ℤ) → nat_abs x < 10 ^ suc k → length (signed_field x) ≤ k + 3
signed_width k (pos n) h = omega (arith, length-append (decimal_of n) (44 ∷ []), decimal_digits k n h)
signed_width k (negsuc n) h = omega (arith, length-append (45 ∷ decimal_of (suc n)) (44 ∷ []), decimal_digits k (suc n) h)

-- the six columns, from the widths of each
columns_width : (r : Row) (a b c d e f : ℕ)
    → length (field_text r.below) ≤ a → length (field_text r.at) ≤ b → length (field_text r.above) ≤ c → length (signed_field r.sum) ≤ d →
    length (field_text r.lost) ≤ e → length (last_text r.size) ≤ f
    → length (columns r) ≤ a + (b + (c + (d + (e + f))))
unfolding columns
columns_width r a b c d e f ha hb hc hd he hf =
    omega (
      arith,
      length-append (field_text r.below) (field_text r.at ++ (field_text r.above ++ (signed_field r.sum ++ (field_text r.lost ++ last_text r.size)))),
      length-append (field_text r.at) (field_text r.above ++ (signed_field r.sum ++ (field_text r.lost ++ last_text r.size))),
      length-append (field_text r.above) (signed_field r.sum ++ (field_text r.lost ++ last_text r.size)),
      length-append (signed_field r.sum) (field_text r.lost ++ last_text r.size),
      length-append (field_text r.lost) (last_text r.size),
    )

abs_most : (x : ℤ) (m : ℕ) → mag x < m → nat_abs x ≤ m
abs_most (pos n) m h = omega arith
abs_most (negsuc n) m h = omega arith

-- a row of 64-bit numbers
row_width : (r : Row) → Holds r → length (columns r) ≤ 127
row_width r h =
    omega (
      arith,
      columns_width r 21 21 21 21 21 22 (w r.below h.below.fits) (w r.at h.at.fits) (w r.above h.above.fits)
          (signed_width 18 r.sum (omega (arith, abs_most r.sum (2 ^ 63) h.sum.sfits))) (w r.lost h.lost.fits) (last_width 19 r.size (omega (arith, h.size.fits))),
    )
  where
    w : (n : ℕ) → n < 2 ^ 64 → length (field_text n) ≤ 21
    w n b = omega (arith, field_width 19 n (omega arith))

-- a cell's row has a digit in each column but the sum
abbrev one : ℕ → ℕ → ℕ → ℤ → Row
one below at above d = record { below = below; at = at; above = above; sum = d; lost = 0; size = 0 }

one_width : (a b c : ℕ) (x : ℤ) → a ≤ 1 → b ≤ 1 → c ≤ 1 → mag x < 2 ^ 31 → length (columns (one a b c x)) ≤ 23
one_width a b c x ha hb hc h =
    omega (
      arith,
      columns_width (one a b c x) 2 2 2 12 2 3 (w a ha) (w b hb) (w c hc)
          (signed_width 9 x (omega (arith, abs_most x (2 ^ 31) h))) (w 0 (omega arith)) (last_width 0 0 (omega arith)),
    )
  where
    w : (n : ℕ) → n ≤ 1 → length (field_text n) ≤ 2
    w n b = field_width 0 n (omega arith)

cell_row_width : (x : ℤ) → mag x < 2 ^ 31 → length (columns (cell_row x)) ≤ 23
cell_row_width (pos zero) h = one_width 0 1 0 (pos 0) (omega arith) (omega arith) (omega arith) h
cell_row_width (pos (suc n)) h = one_width 0 0 1 (pos (suc n)) (omega arith) (omega arith) (omega arith) h
cell_row_width (negsuc n) h = one_width 1 0 0 (negsuc n) (omega arith) (omega arith) (omega arith) h

pub cell_width : (k c : ℕ) (x : ℤ) → k < 2 ^ 64 → c < 2 ^ 64 → mag x < 2 ^ 31 → length (cell_line k c x) ≤ 65
unfolding cell_line
cell_width k c x hk hc h =
    omega (
      arith,
      length-append (field_text k) (field_text c ++ columns (cell_row x)),
      length-append (field_text c) (columns (cell_row x)),
      field_width 19 k (omega arith),
      field_width 19 c (omega arith),
      cell_row_width x h,
    )

pub heap_width : (k : ℕ) (r : Row) → k < 2 ^ 64 → Holds r → length (heap_line k r) ≤ 149
unfolding heap_line
heap_width k r hk h = omega (arith, length-append (field_text k) (44 ∷ columns r), field_width 19 k (omega arith), row_width r h)

pub totals_width : (r : Row) → Holds r → length (totals_line r) ≤ 129
unfolding totals_line
totals_width r h = omega (arith, row_width r h)
