-- One table of references tallied after another.
-- Assumes nothing.
use Prim.Native.Nat.{ℕ, ◌+◌, ◌-◌, ◌≤◌, ◌<◌}
use native.Mathlib.Omega.{arith}
use mathlib.Core.List.{List, ◌++◌}
use mathlib.Core.Path.{ap}
use lib.ListN.{length}
use Rattle.rules.specs.Lists.{dangling}
use Rattle.laws.specs.Sound.Tally.{TallyRoom, counters, dangling-append, dangling-length, tallied_append, room_after, less_room}
use Rattle.tally.specs.Tallies.{Tallies}

pub tallies_append : {a b c : List ℕ} (l m : List ℕ) (first lost r : ℕ) → Tallies a l b first lost → Tallies b m c lost r → Tallies a (l ++ m) c first r
tallies_append {a} l m first lost r v w = (
  omega (arith, v.0, w.0, ap (λ (n : ℕ). dangling (n - 1) m) v.1.size, dangling-append (counters a) l m),
  tallied_append l m v.1 w.1,
)

-- there is room for k more after l
pub room_then : {a b : List ℕ} (l : List ℕ) (first lost k : ℕ) → Tallies a l b first lost
    → TallyRoom a (length l + k) × (first + (length l + k) < 65536) → TallyRoom b k × (lost + k < 65536)
room_then {a} l first lost k v r = (room_after k v.1 r.0, omega (arith, v.0, r.1, dangling-length (counters a) l))

-- where there is room for n, there is for a table of k
pub room_for : {a : List ℕ} (lost n k : ℕ) → k ≤ n → TallyRoom a n × (lost + n < 65536) → TallyRoom a k × (lost + k < 65536)
room_for lost n k m r = (less_room n k m r.0, omega (arith, r.1))
