-- A field of the input, read digit by digit. Assumes nothing.
use Prim.Native.Nat.{ℕ, suc, ◌+◌, ◌*◌, ◌-◌, ◌≤◌}
use native.Mathlib.Omega.{arith}
use mathlib.Core.Path.{◌≡◌, refl}
use mathlib.Core.List.{List, [], ◌∷◌}
use mathlib.Core.Bool.{Bool, true, false, ◌&&◌, and-false}
use lib.Dec.{leb, ltb}
use lib.ListN.{length}
use borrow.Author.Tests.{ltb-true, ltb-false, leb-true, leb-false, le-leb, lt-leb}
use Rattle.csv_text.specs.Lines.{all, is_digit, value_from, is_number}
use Rattle.csv_text.proofs.Meaning.{grows}

-- further digits make a number no smaller
pub value_grows : (n : ℕ) (f : List ℕ) → n ≤ value_from n f
unfolding value_from
value_grows n [] = omega arith
value_grows n (b ∷ f) = omega (arith, value_grows (n * 10 + (b - 48)) f)

abbrev Whole : ℕ → ℕ → List ℕ → Type 0
Whole n d f = n ≤ 5 → d ≤ 65535 → grows n d f ≡ leb (n + length f) 5 && (all is_digit f && leb (value_from d f) 65535)

-- one more byte, by its three tests; v is the value with it
one_more : (n v : ℕ) (f : List ℕ) → n ≤ 5 → Whole (n + 1) v f → (x y z : Bool) → ltb n 5 ≡ y → leb v 65535 ≡ z
    → x && (y && (z && grows (n + 1) v f)) ≡ leb (n + suc (length f)) 5 && ((x && all is_digit f) && leb (value_from v f) 65535)
one_more n v f hn ih false y z ey ez = rw and-false
one_more n v f hn ih true false z ey ez = rw (lt-leb (n + suc (length f)) 5 (omega (arith, ltb-false n 5 ey)))
one_more n v f hn ih true true false ey ez =
    simp (lt-leb (value_from v f) 65535 (omega (arith, leb-false v 65535 ez, value_grows v f)), and-false)
one_more n v f hn ih true true true ey ez =
    let shift : n + suc (length f) ≡ n + 1 + length f = omega arith in
    rw shift (ih (omega (arith, ltb-true n 5 ey)) (leb-true v 65535 ez))

-- the test digit by digit is the test of the whole field
pub grows_whole : (n d : ℕ) (f : List ℕ) → Whole n d f
unfolding grows value_from all
grows_whole n d [] hn hd = simp (le-leb (n + 0) 5 (omega arith), le-leb d 65535 hd)
grows_whole n d (b ∷ f) hn hd =
    one_more n (d * 10 + (b - 48)) f hn (grows_whole (n + 1) (d * 10 + (b - 48)) f) (is_digit b) (ltb n 5) (leb (d * 10 + (b - 48)) 65535) refl refl

pub number_grows : (f : List ℕ) → is_number f ≡ leb 1 (length f) && grows 0 0 f
unfolding is_number
number_grows f = let shift : 0 + length f ≡ length f = omega arith in rw (grows_whole 0 0 f (omega arith) (omega arith), shift)
