-- Totals that one answer raises, in plain numbers.
-- Assumes nothing.
use mathlib.Core.Path.{◌≡◌, ◌∙◌}
use Prim.Native.Nat.{ℕ, ◌+◌}
use native.Mathlib.Omega.{arith}
use borrow.Author.Tests.{eq-eqb, ne_eqb}
use Rattle.rules.specs.declared.Answer.{Answer}
use Rattle.rules.specs.declared.batch.Totals.{Totals}
use Rattle.rules.specs.Batch.{raised_by}

module _ (t : Totals) (a : Answer) where
  -- so many calls done, so many refused, so many cells freed and queued
  abbrev sums : ℕ → ℕ → ℕ → ℕ → Totals
  sums d r f q = record { done = d; refused = r; freed = f; queued = q }

  module _ {d r f q : ℕ} where
    pub one_done : a.refused ≡ 0 → d ≡ t.done + 1 → r ≡ t.refused → f ≡ t.freed + a.freed → q ≡ t.queued + a.queued
        → sums d r f q ≡ raised_by t a
    unfolding raised_by
    one_done e x y z w = rw (eq-eqb a.refused 0 e) (λ i. sums (x i) ((y ∙ plus_none) i) (z i) (w i))
      where
        plus_none : t.refused ≡ t.refused + 0
        plus_none = omega arith

    pub one_refused : (a.refused ≡ 0 → ⊥) → d ≡ t.done → r ≡ t.refused + 1 → f ≡ t.freed + a.freed → q ≡ t.queued + a.queued
        → sums d r f q ≡ raised_by t a
    unfolding raised_by
    one_refused e x y z w = rw (ne_eqb a.refused 0 e) (λ i. sums ((x ∙ plus_none) i) (y i) (z i) (w i))
      where
        plus_none : t.done ≡ t.done + 0
        plus_none = omega arith
