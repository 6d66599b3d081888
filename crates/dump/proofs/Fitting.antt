-- Heaps that fit, and heaps that do not: one with more entries than the largest, one that lacks a table, and one whose tables are empty. Assumes nothing.
use Prim.Native.Nat.{ℕ, ◌+◌, ◌<◌}
use native.Mathlib.Omega.{arith}
use mathlib.Core.Path.{◌≡◌, sym, ◌∙◌, ap}
use mathlib.Core.List.{List, [], ◌∷◌, ◌++◌}
use mathlib.Core.Bool.{true, false, true≢false}
use lib.ListN.{length, get_or, get_or-eq_default}
use Rattle.rules.specs.Heap.{Heap}
use Rattle.rules.specs.Sound.{Sized}
use Rattle.rules.specs.Check.{fits}
use Rattle.laws.specs.Lists.Tests.{fails}
use Rattle.laws.specs.Sound.Reflect.{fits_sized}
use Rattle.dump.specs.Dumps.{unfit, heap_of}
use Rattle.dump.specs.Reading.{State, heap_given, next_line}
use Rattle.dump.specs.Holding.{size}
use Rattle.dump.specs.Claims.{Alike}
use Rattle.dump.proofs.Tables.{size_last}
use Rattle.dump.proofs.Rows.{unfit_long}
use Rattle.dump.proofs.LineEnds.{Closes, exact, large}
use Rattle.dump.proofs.Given.{given_spoilt, given_table}

-- no heap fits whose lengths can't be
unfitting : (h : Heap) → (Sized h → ⊥) → fits h ≡ false
unfitting h n = fails (fits h) (λ e. n (fits_sized h e))

-- ---- seven tables with too many entries

seven : (ts : List (List ℕ)) → length ts ≡ 7
    → size ts ≡ length (get_or ts 0 unfit) + (length (get_or ts 1 unfit) + (length (get_or ts 2 unfit) + (length (get_or ts 3 unfit)
    + (length (get_or ts 4 unfit) + (length (get_or ts 5 unfit) + length (get_or ts 6 unfit))))))
unfolding size
seven [] e = absurd (omega arith)
seven (a ∷ []) e = absurd (omega arith)
seven (a ∷ (b ∷ [])) e = absurd (omega arith)
seven (a ∷ (b ∷ (c ∷ []))) e = absurd (omega arith)
seven (a ∷ (b ∷ (c ∷ (d ∷ [])))) e = absurd (omega arith)
seven (a ∷ (b ∷ (c ∷ (d ∷ (f ∷ []))))) e = absurd (omega arith)
seven (a ∷ (b ∷ (c ∷ (d ∷ (f ∷ (g ∷ [])))))) e = absurd (omega arith)
seven (a ∷ (b ∷ (c ∷ (d ∷ (f ∷ (g ∷ (h ∷ []))))))) e = omega arith
seven (a ∷ (b ∷ (c ∷ (d ∷ (f ∷ (g ∷ (h ∷ (i ∷ ts)))))))) e = absurd (omega arith)

-- the largest heap that fits has 12 x 1,024 + 66 entries
large_unfit : (ts : List (List ℕ)) → length ts ≡ 7 → 12354 < size ts → fits (heap_of ts) ≡ false
large_unfit ts e h = unfitting (heap_of ts) (λ l. omega (arith, seven ts e))

-- a table is missing
short_unfit : (ts : List (List ℕ)) → length ts < 7 → fits (heap_of ts) ≡ false
short_unfit ts h =
    unfitting (heap_of ts) (λ l. omega (arith, l.control, ap length (get_or-eq_default ts unfit {n = 6} (omega arith)), unfit_long))

-- every table is given as empty
spoilt_unfit : (t : State) → t.reader.spoilt ≡ true → fits (heap_given t) ≡ false
spoilt_unfit t e = unfitting (heap_given t) (λ l. omega (arith, l.least, ap length (given_spoilt t 0 e)))

-- ---- what is given, and what is meant

alike_unfit : (g m : Heap) → fits g ≡ false → fits m ≡ false → Alike g m
alike_unfit g m e f = record { fit = e ∙ sym f; same = λ h. absurd (true≢false (sym h ∙ f)) }

-- some lines are missing
pub alike_short : (t : State) (ts : List (List ℕ)) → t.reader.spoilt ≡ true → length ts < 7 → Alike (heap_given t) (heap_of ts)
alike_short t ts e h = alike_unfit (heap_given t) (heap_of ts) (spoilt_unfit t e) (short_unfit ts h)

-- all tables are there
given_same : (t : State) (ts : List (List ℕ)) → t.reader.spoilt ≡ false → t.finished ≡ ts → heap_given t ≡ heap_of ts
given_same t ts e f =
    rw (given_table t 0 e, given_table t 1 e, given_table t 2 e, given_table t 3 e, given_table t 4 e, given_table t 5 e, given_table t 6 e, f)

pub alike_whole : (u : State) (ts : List (List ℕ)) (x : List ℕ) → length (ts ++ (x ∷ [])) ≡ 7 → Closes u ts x
    → Alike (heap_given (next_line u)) (heap_of (ts ++ (x ∷ [])))
alike_whole u ts x h (exact fit same row end) =
    let g : heap_given (next_line u) ≡ heap_of (ts ++ (x ∷ [])) =
    given_same (next_line u) (ts ++ (x ∷ [])) fit (ap (λ (t : List (List ℕ)). t ++ (u.row ∷ [])) same ∙ ap (λ (r : List ℕ). ts ++ (r ∷ [])) row) in
    record { fit = ap fits g; same = λ p. g }
alike_whole u ts x h (large e l) =
    alike_unfit (heap_given (next_line u)) (heap_of (ts ++ (x ∷ []))) (spoilt_unfit (next_line u) e)
    (large_unfit (ts ++ (x ∷ [])) h (omega (arith, size_last ts x)))
