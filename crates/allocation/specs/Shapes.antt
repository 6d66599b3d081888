-- What a kind and a wish for a finalizer are as a shape: the same two numbers, if NEW can make such a cell; else none.
-- Assumes nothing: these are definitions.
use Rattle.std.specs.Prelude.{ℕ, true, false, ◌≡◌, Option, Some, None}
use Rattle.rules.specs.Refusals.{new_ok}
use Rattle.allocation.specs.declared.shape.Shape.{Shape}

abbrev pub AsShape : ℕ → ℕ → Option Shape → Type 0
AsShape k f (Some s) = (s.kind ≡ k) × (s.flags ≡ f) × (new_ok k f ≡ true)
AsShape k f None = new_ok k f ≡ false
