-- For the functions that write the report's lines. Assumes nothing: these are definitions.
use Rattle.std.specs.Prelude.{ℕ, zero, suc, ◌+◌, ◌≤◌, List, [], ◌∷◌, ℤ, pos, negsuc, length, get_or}

-- there is room for a text in a buffer at `at`
pub record Room (out : List ℕ) (at : ℕ) (text : List ℕ) : Type 0 where
  pub enough : at + length text ≤ length out

-- a cell's difference, in a table of them
abbrev pub entry : List ℤ → ℕ → ℤ
entry differences c = get_or differences c (pos 0)

-- below,at,above, of a cell with this difference
abbrev pub side_text : ℤ → List ℕ
side_text (negsuc n) = 49 ∷ 44 ∷ 48 ∷ 44 ∷ 48 ∷ 44 ∷ []
side_text (pos zero) = 48 ∷ 44 ∷ 49 ∷ 44 ∷ 48 ∷ 44 ∷ []
side_text (pos (suc n)) = 48 ∷ 44 ∷ 48 ∷ 44 ∷ 49 ∷ 44 ∷ []
