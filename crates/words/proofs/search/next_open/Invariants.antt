-- `words::search::next_open` meets its contract: the cells passed are not open, and those from there on are ahead. Assumes nothing.
use Prim.Native.Nat.{ℕ, ◌-◌, ◌^◌, ◌<◌}
use Rattle.words.specs.Search.{Left}
use Rattle.words.proofs.Ahead.{Searched}
use Rattle.words.proofs.search.next_open.Given as goal

abbrev pub invariant-loop-bits : goal.invariant-loop-bits
invariant-loop-bits l =
    (l.base < l.cells) × (l.bits < 2 ^ 64)
    × ((from : ℕ) → Left l.words l.marks l.cells from l.fn.rest → Searched l.words l.marks from l.base l.bits)

abbrev pub decreases-loop-bits : goal.decreases-loop-bits
decreases-loop-bits l = l.cells - l.base
