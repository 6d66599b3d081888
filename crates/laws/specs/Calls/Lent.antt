-- The table that is lent for the freed cells: where its length fits, a call is refused by the heap's tables and its numbers alone; else it is refused SIZE.
-- Assumes nothing.
use Rattle.std.specs.Prelude.{ℕ, List, Bool, true, false, ◌||◌, ◌≢◌, ◌≡◌, refl, eqb, length}
use Rattle.std.proofs.Common.{eqb-true, eq-eqb, ne_eqb}
use Rattle.std.proofs.lemmas.Bool.{eqb-false}
use Rattle.rules.specs.Heap.{Heap, cells}
use Rattle.rules.specs.Refusals.{Call, number, is_fresh, refusal, lent_fits, refusal_lent}
use Rattle.rules.specs.Refusals.Call.{FRESH}
use Rattle.laws.specs.Lists.Tests.{or_false}
use Rattle.laws.specs.Calls.Arguments.{fresh_only, not_fresh}

pub lent_fits_lem : (h : Heap) (lent : List ℕ) (call : Call) → lent_fits h lent call ≡ true → refusal_lent h lent call ≡ refusal h call
unfolding refusal_lent
lent_fits_lem h lent call t = rw t refl

pub lent_misfits : (h : Heap) (lent : List ℕ) (call : Call) → lent_fits h lent call ≡ false → (call ≢ FRESH) × (length lent ≢ cells h) × (refusal_lent h lent call ≡ 1)
unfolding lent_fits refusal_lent number
lent_misfits h lent call f =
    let p = or_false (is_fresh call) (eqb (length lent) (cells h)) f in
    (not_fresh call p.0, eqb-false (length lent) (cells h) p.1, rw f refl)

-- the test that passes, and what it says of the lengths
pub fits_lent : (h : Heap) (lent : List ℕ) (call : Call) → length lent ≡ cells h → lent_fits h lent call ≡ true
unfolding lent_fits
fits_lent h lent call e = go (is_fresh call)
  where
    go : (b : Bool) → (b || eqb (length lent) (cells h)) ≡ true
    go true = refl
    go false = eq-eqb (length lent) (cells h) e

pub fitting : (h : Heap) (lent : List ℕ) (call : Call) → call ≢ FRESH → lent_fits h lent call ≡ true → length lent ≡ cells h
unfolding lent_fits
fitting h lent call n t = eqb-true (length lent) (cells h) (rw (fresh_only call n) at t)

pub misfits_lent : (h : Heap) (lent : List ℕ) (call : Call) → is_fresh call ≡ false → length lent ≢ cells h → lent_fits h lent call ≡ false
unfolding lent_fits
misfits_lent h lent call n e = rw (n, ne_eqb (length lent) (cells h) e) refl
