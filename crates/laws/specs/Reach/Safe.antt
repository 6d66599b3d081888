-- No call frees what roots and queue still reach: it is enough that the heap after the call is sound,
-- and that the slots of each cell in use after it are as they stood. The first freed cell on a chain
-- would have a predecessor that is in use and refers to it still.
-- Assumes nothing.
use Rattle.std.specs.Prelude.{ℕ, ◌+◌, ◌*◌, ◌<◌, List, [], ◌≡◌, get_or}
use Rattle.std.proofs.Common.{arith, ◌∙◌}
use Rattle.rules.specs.Heap.{Heap, slot_of, entries, Used}
use Rattle.rules.specs.Reach.{Link, Chain}
use Rattle.rules.specs.Demand3.{Frees}
use Rattle.laws.specs.Sound.But.{SoundBut}
use Rattle.laws.specs.Reach.Used.{link_used, chain_used}

-- each slot of a cell in use is as it stood
abbrev pub Kept : Heap → List ℕ → Type 0
Kept h stood = (c s : ℕ) → Used h c → s < 8 → slot_of h c s ≡ get_or stood (8 * c + s) 0

kept_link : (h : Heap) (stood : List ℕ) → Kept h stood → (p c : ℕ) → Used h p → Link stood p c → Link h.slots p c
kept_link h stood k p c u l = record { slot = l.slot; in_cell = l.in_cell; holds = k p l.slot u l.in_cell ∙ l.holds }

pub frees_unreached : (before after : Heap) (stood : List ℕ) → SoundBut after [] → Kept after stood
    → (c : ℕ) → Frees before after c → ¬ Chain after.roots (entries after) stood c
frees_unreached before after stood s k c f r =
    let u : Used after c = chain_used after [] s stood (λ p d u l. link_used after [] s p d (kept_link after stood k p d u l)) c r in
    omega (arith, f.free)
