-- What the program writes is the report over the heaps of its input. Assumes nothing.
use Prim.Native.Nat.{ℕ, zero, suc, ◌<◌}
use native.Mathlib.Omega.{arith}
use mathlib.Core.Bool.{Bool, true, false, cond}
use mathlib.Core.List.{List, [], ◌∷◌, ◌++◌, map}
use mathlib.Core.Path.{◌≡◌, refl, ◌∙◌}
use lib.Dec.{eqb, leb}
use lib.ListN.{length, get_or, replicate}
use borrow.Author.Tests.{leb-true}
use Rattle.csv_text.specs.Lines.{all, is_digit, lines_of, fields_of, value_of, is_number}
use Rattle.rules.specs.Audit.{Sixteen}
use Rattle.laws.specs.Lists.Tests.{and_left, and_right}
use Rattle.laws.specs.Audit.Lines.{writes_report}
use Rattle.dump.specs.Dumps.{unfit, table_of, heap_of, heaps_from, heaps_of}
use Rattle.dump.proofs.Whole.{reads_heaps}
use Rattle.auditor.specs.Output.{whole, output_for, WritesOutput}
use Rattle.auditor.proofs.Alike.{same_output}

-- ---- every entry that an input says is a 16-bit number

abbrev Small : List ℕ → Type 0
Small t = (i : ℕ) → get_or t i 0 < 65536

value_small : (f : List ℕ) → is_number f ≡ true → value_of f < 65536
unfolding is_number
value_small f h =
    let digits = and_right (leb 1 (length f)) _ h in
    let value = and_right (all is_digit f) _ (and_right (leb (length f) 5) _ digits) in
    omega (arith, leb-true (value_of f) 65535 value)

values_small : (fs : List (List ℕ)) → all is_number fs ≡ true → Small (map value_of fs)
unfolding all
values_small [] h i = omega arith
values_small (f ∷ fs) h zero = value_small f (and_left (is_number f) (all is_number fs) h)
values_small (f ∷ fs) h (suc i) = values_small fs (and_right (is_number f) (all is_number fs) h) i

zeros_small : (n : ℕ) → Small (replicate n 0)
zeros_small zero i = omega arith
zeros_small (suc n) zero = omega arith
zeros_small (suc n) (suc i) = zeros_small n i

unfit_small : Small unfit
unfolding unfit
unfit_small = zeros_small 12355

table_small : (l : List ℕ) → Small (table_of l)
unfolding table_of
table_small l = go (eqb (length l) 0) (all is_number (fields_of l)) refl
  where
    go : (a b : Bool) → all is_number (fields_of l) ≡ b → Small (cond a [] (cond b (map value_of (fields_of l)) unfit))
    go true b e = λ i. omega arith
    go false true e = values_small (fields_of l) e
    go false false e = unfit_small

-- ---- so is every count

abbrev AllSmall : List (List ℕ) → Type 0
AllSmall ts = (j : ℕ) → Small (get_or ts j unfit)

none_small : AllSmall []
none_small j = unfit_small

also_small : (ts : List (List ℕ)) (t : List ℕ) → AllSmall ts → Small t → AllSmall (ts ++ (t ∷ []))
also_small [] t a s zero = s
also_small [] t a s (suc j) = unfit_small
also_small (x ∷ ts) t a s zero = a 0
also_small (x ∷ ts) t a s (suc j) = also_small ts t (λ k. a (suc k)) s j

sixteen_from : (ls ts : List (List ℕ)) → AllSmall ts → Sixteen (map whole (heaps_from ts (map table_of ls)))
unfolding heaps_from
sixteen_from [] ts a = go (eqb (length ts) 0)
  where
    go : (b : Bool) → Sixteen (map whole (cond b [] (heap_of ts ∷ [])))
    go true = tt
    go false = (a 2, tt)
sixteen_from (l ∷ ls) ts a =
    let more = also_small ts (table_of l) a (table_small l) in
    go (eqb (length ts) 6) more (sixteen_from ls [] none_small) (sixteen_from ls (ts ++ (table_of l ∷ [])) more)
  where
    go : (b : Bool) → AllSmall (ts ++ (table_of l ∷ [])) → Sixteen (map whole (heaps_from [] (map table_of ls)))
        → Sixteen (map whole (heaps_from (ts ++ (table_of l ∷ [])) (map table_of ls)))
        → Sixteen (map whole (cond b (heap_of (ts ++ (table_of l ∷ [])) ∷ heaps_from [] (map table_of ls)) (heaps_from (ts ++ (table_of l ∷ [])) (map table_of ls))))
    go true more x y = (more 2, x)
    go false more x y = y

sixteen : (input : List ℕ) → Sixteen (map whole (heaps_of input))
unfolding heaps_of
sixteen input = sixteen_from (lines_of input) [] none_small

pub writes_output : WritesOutput
unfolding output_for
writes_output input = same_output (reads_heaps input) ∙ writes_report (map whole (heaps_of input)) (sixteen input)
