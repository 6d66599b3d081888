-- What START decides before it writes.
-- Assumes nothing: these are definitions.
use Rattle.std.specs.Prelude.{ℕ, ◌≤◌, ◌≡◌, Result, Ok, Err}
use Rattle.numbers.specs.declared.below.Below.{Below}
use Rattle.rules.specs.declared.refusal.Refusal.{Refusal}
use Rattle.rules.specs.Heap.{Heap, queued}
use Rattle.rules.specs.Refused.{number_of}
use Rattle.rules.specs.Refusals.{refusal_sound}
use Rattle.rules.specs.Refusals.Call.{START}

-- why it is refused, or the root that is to run; a cell is queued then
abbrev pub Chosen : Heap → ℕ → Result (Below 64) Refusal → Type 0
Chosen h r (Err why) = refusal_sound h (START r) ≡ number_of why
Chosen h r (Ok to) = (refusal_sound h (START r) ≡ 0) × (to.0 ≡ r) × (1 ≤ queued h)
