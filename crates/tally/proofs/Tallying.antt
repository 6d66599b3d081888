-- The loops that tally a table of references, one or four in a turn: their invariant, at the start, after a turn, and at the end.
-- Assumes nothing.
use Prim.Native.Nat.{ℕ, ◌≤◌, ◌<◌, ◌+◌, ◌-◌, ◌*◌, ◌/◌}
use native.Mathlib.Omega.{arith}
use mathlib.Core.List.{List, [], ◌∷◌}
use mathlib.Core.Bool.{true}
use mathlib.Core.Path.{◌≡◌, refl, ap}
use lib.Dec.{eqb}
use lib.ListN.{length, get_or, take, drop}
use lib.Seq.{length-take-le, take_all}
use Rattle.std.specs.Simd.{first_chunks}
use Rattle.rules.specs.Lists.{all, dangling}
use Rattle.laws.specs.Lists.Tables.{drop-next}
use Rattle.laws.specs.Sound.Tally.{TallyRoom, counters, tallied_none, tallied_zeros, tallied_part, room_after, less_room, dangling_zeros, dangling-length, dangling_part}
use Rattle.rules.specs.Lists as Lists
use Rattle.tally.specs.Tallies.{Tallies}
use Rattle.tally.proofs.Chunks.{chunk_at}
use Rattle.tally.proofs.Scratch.{part_rest}

-- `whole` is the tally before, `first` what was lost before; `tally` and `lost` are what the first i entries make of them
pub record Tallying (whole table tally : List ℕ) (first lost i : ℕ) : Type 0 where
  pub bound : i ≤ length table
  pub is : Tallies whole (take i table) tally first lost

pub tallying_begin : (whole table : List ℕ) (first : ℕ) → Tallying whole table whole first first 0
unfolding Lists.dangling
tallying_begin whole table first = record { bound = omega arith; is = (omega arith, tallied_none whole) }

-- the entry at i, as a part of the table
one_part : (table : List ℕ) (i : ℕ) → i < length table → get_or table i 0 ∷ [] ≡ take (i + 1 - i) (drop i table)
one_part table i m =
    let e : i + 1 - i ≡ 1 = omega arith in
    rw (e, drop-next table i m) refl

-- the four at i of a table cut into fours, as a part of the table
four_part : (table : List ℕ) (k i : ℕ) → i < k → get_or (first_chunks 4 k table) i [] ≡ take (4 * (i + 1) - 4 * i) (drop (4 * i) table)
four_part table k i m =
    let e : 4 * (i + 1) - 4 * i ≡ 4 = omega arith in
    rw e (chunk_at 4 k i table m)

module _ {whole table tally : List ℕ} {first lost i : ℕ} (v : Tallying whole table tally first lost i) where
  -- where there was room for n references, there is still room for k after the first i, in the tally and in the number of lost ones
  pub room_here : (n k : ℕ) → TallyRoom whole n → first + n < 65536 → i + k ≤ n → TallyRoom tally k × (lost + k < 65536)
  room_here n k r f m =
      let long = length-take-le i table v.bound in (
        room_after k v.is.1 (less_room n _ (omega arith) r),
        omega (arith, v.is.0, dangling-length (counters whole) (take i table)),
      )

  -- the entries from i to e are tallied
  pub tallying_turn : (e r : ℕ) (next : List ℕ) → i ≤ e → e ≤ length table → Tallies tally (take (e - i) (drop i table)) next lost r → Tallying whole table next first r e
  tallying_turn e r next h m w =
      record {
        bound = m;
        is = (
          omega (
            arith,
            w.0,
            v.is.0,
            ap (λ (n : ℕ). dangling (n - 1) (take (e - i) (drop i table))) v.is.1.size,
            dangling_part (counters whole) table i e h,
          ),
          tallied_part table i e h v.is.1 w.1,
        );
      }

  pub tallying_turn_one : (r : ℕ) (next : List ℕ) → i < length table → Tallies tally (get_or table i 0 ∷ []) next lost r → Tallying whole table next first r (i + 1)
  tallying_turn_one r next m w = tallying_turn (i + 1) r next (omega arith) (omega arith) (rw (← one_part table i m) w)

  pub tallying_done : length table ≤ i → Tallies whole table tally first lost
  tallying_done m = rw (take_all i table m) at v.is

-- what is left from i on is tallied
pub tallying_rest : {whole table tally : List ℕ} {first lost i : ℕ} → Tallying whole table tally first lost i → (r : ℕ) (next rest : List ℕ) → rest ≡ drop i table
    → Tallies tally rest next lost r → Tallies whole table next first r
tallying_rest {table = table} {i = i} v r next rest e w =
    tallying_done (tallying_turn v (length table) r next v.bound (omega arith) (rw (part_rest table i, ← e) w)) (omega arith)

-- the four at i are tallied, of a table that is cut into fours as far as it goes
pub tallying_turn_four : {whole table tally : List ℕ} {first lost : ℕ} (i : ℕ) → Tallying whole table tally first lost (4 * i) → (r : ℕ) (next : List ℕ) → i < length table / 4
    → Tallies tally (get_or (first_chunks 4 (length table / 4) table) i []) next lost r → Tallying whole table next first r (4 * (i + 1))
tallying_turn_four {table = table} i v r next m w =
    tallying_turn v (4 * (i + 1)) r next (omega arith) (omega arith) (rw (← four_part table (length table / 4) i m) w)

-- four empty references may be skipped
pub skipped : (tally l : List ℕ) (lost : ℕ) → all (eqb 0) l ≡ true → Tallies tally l tally lost lost
skipped tally l lost z = (omega (arith, dangling_zeros (counters tally) l z), tallied_zeros tally l z)
