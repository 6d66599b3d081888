-- Rows and answers whose parts are equal, one by one.
-- Assumes nothing.
use Prim.Native.Nat.{ℕ}
use mathlib.Core.Path.{◌≡◌}
use lib.IntN.{ℤ}
use Rattle.rules.specs.declared.audit.Row.{Row}
use Rattle.rules.specs.declared.audit.Audited.{Audited}

pub row_is : {b t a l s b₂ t₂ a₂ l₂ s₂ : ℕ} {z z₂ : ℤ} → b ≡ b₂ → t ≡ t₂ → a ≡ a₂ → z ≡ z₂ → l ≡ l₂ → s ≡ s₂
    → ◌≡◌ {A = Row} (record { below = b; at = t; above = a; sum = z; lost = l; size = s }) (record { below = b₂; at = t₂; above = a₂; sum = z₂; lost = l₂; size = s₂ })
row_is below at above sum lost size = λ i. record { below = below i; at = at i; above = above i; sum = sum i; lost = lost i; size = size i }

-- answers whose parts are equal
pub answer_is : {n k n₂ k₂ : ℕ} {h t h₂ t₂ : Row} → n ≡ n₂ → h ≡ h₂ → k ≡ k₂ → t ≡ t₂
    → ◌≡◌ {A = Audited} (record { refused = n; heap = h; report = record { heaps = k; totals = t } }) (record { refused = n₂; heap = h₂; report = record { heaps = k₂; totals = t₂ } })
answer_is refused heap heaps totals = λ i. record { refused = refused i; heap = heap i; report = record { heaps = heaps i; totals = totals i } }
