-- What a number is as a root's, a slot's and a cell's: the same number, below its limit; else none.
-- Assumes nothing: these are definitions.
use Rattle.std.specs.Prelude.{ℕ, ◌<◌, ◌≤◌, ◌≡◌, Option, Some, None}
use Rattle.numbers.specs.declared.below.Below.{Below}
use Rattle.numbers.specs.declared.cell.Cell.{Cell}

abbrev pub AsBelow : {N : ℕ} → ℕ → (limit : ℕ) → Option (Below N) → Type 0
AsBelow x limit (Some s) = (s.0 ≡ x) × (x < limit)
AsBelow x limit None = limit ≤ x

abbrev pub AsCell : ℕ → ℕ → Option Cell → Type 0
AsCell x n (Some c) = (c.0 ≡ x) × (x < n)
AsCell x n None = n ≤ x
