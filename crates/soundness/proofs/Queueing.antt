-- The loop that tallies the queue: its invariant, at the start, after a turn, and at the end.
-- Assumes nothing.
use Prim.Native.Nat.{ℕ, ◌≤◌, ◌<◌, ◌+◌}
use native.Mathlib.Omega.{arith}
use native.Mathlib.Decide.{ℕ_discrete}
use native.Mathlib.Numerals.{add-one}
use mathlib.Core.List.{List, [], ◌∷◌, ◌++◌}
use mathlib.Core.Bool.{true, false, ◌&&◌}
use mathlib.Core.Logic.{◌≢◌, by_cases}
use mathlib.Core.Path.{◌≡◌, sym, ◌∙◌, ap}
use lib.Dec.{leb}
use lib.ListN.{length, get_or, take, drop, set, take-append-drop}
use lib.Seq.{take-suc, take_all}
use borrow.Author.Tests.{le-leb, leb-true}
use borrow.Author.Count.{below_none, below_more}
use Rattle.rules.specs.Lists.{occ, all, distinct}
use Rattle.laws.specs.Lists.Tests.{fails, and_join, and_left, and_right, all_all, all_at}
use Rattle.laws.specs.Lists.Tables.{drop-next}
use Rattle.laws.specs.Lists.Occ.{occ_nil, occ_here, occ_one, occ_other, occ-append, distinct_once, once_distinct}
use Rattle.laws.specs.Sound.Tally.{counters, Tallied, tallied_none, tallied_in, tallied_append}
use Rattle.soundness.specs.Tests.{names}

pub names_of : (n x : ℕ) → names n x ≡ true → (1 ≤ x) × (x ≤ n)
unfolding names
names_of n x t = (leb-true 1 x (and_left (leb 1 x) (leb x n) t), leb-true x n (and_right (leb 1 x) (leb x n) t))

pub names_ok : (n x : ℕ) → 1 ≤ x → x ≤ n → names n x ≡ true
unfolding names
names_ok n x a b = and_join (le-leb 1 x a) (le-leb x n b)

-- after i entries: each named a cell, none stood twice, and they are tallied
pub record Queueing (whole entries tally : List ℕ) (i : ℕ) : Type 0 where
  pub bound : i ≤ length entries
  pub is : Tallied whole (take i entries) tally
  pub named : (j : ℕ) → j < i → names (counters whole) (get_or entries j 0) ≡ true
  pub once : (x : ℕ) → occ x (take i entries) ≤ 1

pub queueing_begin : (whole entries : List ℕ) → Queueing whole entries whole 0
queueing_begin whole entries = record { bound = omega arith; is = tallied_none whole; named = below_none _; once = λ x. omega (arith, occ_nil x) }

-- an entry that names no cell
pub unnamed : (n : ℕ) (entries : List ℕ) (i : ℕ) → i < length entries → ((1 ≤ get_or entries i 0) × (get_or entries i 0 ≤ n) → ⊥)
    → (distinct entries && all (names n) entries) ≡ false
unnamed n entries i m bad =
    fails _ (λ t. bad (names_of n (get_or entries i 0) (all_at (names n) entries (and_right (distinct entries) (all (names n) entries) t) i m)))

module _ {whole entries tally : List ℕ} {i : ℕ} (clear : (x : ℕ) → get_or whole x 0 ≡ 0) (v : Queueing whole entries tally i) (m : i < length entries)
    (some : 1 ≤ get_or entries i 0) (low : get_or entries i 0 < length tally) where
  -- how often the entry at i was met before
  met : get_or tally (get_or entries i 0) 0 ≡ occ (get_or entries i 0) (take i entries)
  met = omega (arith, v.is.at (get_or entries i 0) some (omega (arith, v.is.size)), clear (get_or entries i 0))

  pub twice : get_or tally (get_or entries i 0) 0 ≢ 0 → (distinct entries && all (names (counters whole)) entries) ≡ false
  twice n =
      fails _ (λ t. omega (
        arith,
        met,
        distinct_once entries (and_left (distinct entries) (all (names (counters whole)) entries) t) (get_or entries i 0),
        occ-append (get_or entries i 0) (take i entries) (drop i entries),
        ap (occ (get_or entries i 0)) (take-append-drop i entries),
        ap (occ (get_or entries i 0)) (drop-next entries i m),
        occ_here (get_or entries i 0) (drop (i + 1) entries),
      ))

  pub queueing_turn : (next : List ℕ) → get_or tally (get_or entries i 0) 0 ≡ 0 → next ≡ set tally (get_or entries i 0) 1 → Queueing whole entries next (i + 1)
  queueing_turn next n f =
      let y = get_or entries i 0 in
      let front : take (i + 1) entries ≡ take i entries ++ (y ∷ []) = rw add-one (take-suc entries i 0 m) in
      let one : set tally y (get_or tally y 0 + 1) ≡ next = ap (λ (k : ℕ). set tally y (k + 1)) n ∙ sym f in
      record {
        bound = omega arith;
        is = rw front (tallied_append _ _ v.is (rw one at (tallied_in tally y low)));
        named = below_more _ _ v.named (names_ok (counters whole) y some (omega (arith, v.is.size)));
        once = λ x.
            by_cases (ℕ_discrete x y)
            (λ q. omega (arith, ap (occ x) front, occ-append x (take i entries) (y ∷ []), occ_one x y q, ap (λ (z : ℕ). occ z (take i entries)) q, met))
            (λ q. omega (arith, ap (occ x) front, occ-append x (take i entries) (y ∷ []), occ_other x y q, v.once x));
      }

pub queueing_done : {whole entries tally : List ℕ} {i : ℕ} → Queueing whole entries tally i → length entries ≤ i
    → ((distinct entries && all (names (counters whole)) entries) ≡ true) × Tallied whole entries tally
queueing_done {whole} {entries} {tally} {i} v h = (
  and_join
      (once_distinct entries (λ x. omega (arith, v.once x, ap (occ x) (take_all i entries h))))
      (all_all (names (counters whole)) entries (λ j m. v.named j (omega arith))),
  rw (take_all i entries h) at v.is,
)
