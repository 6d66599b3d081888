-- The end of the input: the heaps that are given at it are those that are meant. Assumes nothing.
use Prim.Native.Nat.{ℕ, ◌+◌, ◌<◌}
use native.Mathlib.Omega.{arith}
use mathlib.Core.Path.{◌≡◌, refl, sym, ◌∙◌, ap}
use mathlib.Core.List.{List, [], ◌∷◌, ◌++◌}
use mathlib.Core.Bool.{Bool, true, false, cond}
use lib.Dec.{eqb}
use lib.ListN.{length, length-append}
use borrow.Author.Tests.{eqb-true, eqb-false}
use Rattle.dump.specs.Dumps.{table_of, heap_of, heaps_from}
use Rattle.dump.specs.Reading.{State, with, spoiled, last_field, next_line, line_end, last_line, cut_short, whole, closed, out, given}
use Rattle.dump.specs.Claims.{AllAlike, none, also}
use Rattle.dump.proofs.Cases.{last_lone_cr, last_ends, last_nothing, whole_none, whole_all, whole_short}
use Rattle.dump.proofs.Meaning.{Follows}
use Rattle.dump.proofs.Following.{follows_lone}
use Rattle.dump.proofs.LineEnds.{LastField, last_closes}
use Rattle.dump.proofs.Fitting.{alike_short, alike_whole}
use Rattle.dump.proofs.Cutting.{given_end, out_none, out_heap}
use Rattle.dump.proofs.Meant.{meant, pending, heaps_left, heaps_last, meant_last, meant_cr}
use Rattle.dump.proofs.Bytes.{Reads, at}

-- what is given after the last line
given_last : (s t : State) → last_line s ≡ t → given s [] ≡ out (whole t)
unfolding closed
given_last s t e = given_end s ∙ ap (λ (x : State). out (whole x)) e

-- tables that some lines are missing for
out_short : (t : State) (ts : List (List ℕ)) → t.reader.tables ≡ length ts → 0 < length ts → length ts < 7 → AllAlike (out (whole t)) (heap_of ts ∷ [])
out_short t ts l some few =
    let short : State = with t (cut_short t.reader) in
    at (ap out (whole_short t (λ e. omega (arith, l)) (λ e. omega (arith, l))) ∙ out_heap short refl) refl (also (alike_short short ts refl few) none)

-- the last line ends
out_line : (s : State) (ts : List (List ℕ)) (p : List ℕ) → Follows s ts p → AllAlike (out (whole (line_end s))) (heaps_from ts (table_of p ∷ []))
unfolding line_end
out_line s ts p h = at refl (heaps_last ts x) (go (eqb (length ts) 6) refl)
  where
    x : List ℕ
    x = table_of p

    u : State
    u = last_field s

    ends : LastField s ts x
    ends = last_closes s ts p h.knows

    held : u.reader.tables ≡ length ts
    held = ends.count ∙ h.count

    count : length (ts ++ (x ∷ [])) ≡ length ts + 1
    count = length-append ts (x ∷ [])

    go : (y : Bool) → eqb (length ts) 6 ≡ y → AllAlike (out (whole (next_line u))) (heap_of (ts ++ (x ∷ [])) ∷ [])
    go true e =
        let six : length ts ≡ 6 = eqb-true (length ts) 6 e in
        let all : (next_line u).reader.tables ≡ 7 = omega (arith, held) in
        at (ap out (whole_all (next_line u) all) ∙ out_heap (next_line u) all) refl (also (alike_whole u ts x (omega (arith, count)) ends.closes) none)
    go false e =
        let n : length ts ≡ 6 → ⊥ = eqb-false (length ts) 6 e in
        out_short (next_line u) (ts ++ (x ∷ [])) (omega (arith, held, count)) (omega (arith, count)) (omega (arith, n, count, h.few))

-- no line has begun
out_tables : (s : State) (ts : List (List ℕ)) (p : List ℕ) → Follows s ts p → AllAlike (out (whole s)) (heaps_from ts [])
unfolding heaps_from
out_tables s ts p h = go (eqb (length ts) 0) refl
  where
    go : (y : Bool) → eqb (length ts) 0 ≡ y → AllAlike (out (whole s)) (heaps_from ts [])
    go true e =
        let zero : s.reader.tables ≡ 0 = h.count ∙ eqb-true (length ts) 0 e in
        at (ap out (whole_none s zero) ∙ out_none s (λ z. omega arith)) (ap (λ t. cond t [] (heap_of ts ∷ [])) e) none
    go false e =
        let n : length ts ≡ 0 → ⊥ = eqb-false (length ts) 0 e in
        at refl (heaps_left ts n) (out_short s ts h.count (omega (arith, n)) h.few)

pub reads_end : Reads []
reads_end s ts p h = go s.reader.cr s.reader.begun refl refl
  where
    go : (x y : Bool) → s.reader.cr ≡ x → s.reader.begun ≡ y → AllAlike (given s []) (meant ts p (pending x []))
    go true y e f =
        at (given_last s (line_end (spoiled s)) (last_lone_cr s e)) (meant_cr ts p)
        (out_line (spoiled s) ts (p ++ (13 ∷ [])) (follows_lone s ts p h))
    go false true e f =
        at (given_last s (line_end s) (last_ends s e f)) (meant_last ts p true (sym f ∙ h.begun)) (out_line s ts p h)
    go false false e f =
        at (given_last s s (last_nothing s e f)) (meant_last ts p false (sym f ∙ h.begun)) (out_tables s ts p h)
