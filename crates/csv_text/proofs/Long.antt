-- Lines over 64 bytes: they are malformed, and the reader skips the rest of them. Assumes nothing.
use Prim.Native.Nat.{ℕ, suc, ◌+◌, ◌*◌, ◌-◌, ◌≤◌, ◌<◌}
use native.Mathlib.Omega.{arith}
use mathlib.Core.Path.{◌≡◌, refl, ap, subst, subst⁻¹}
use mathlib.Core.List.{List, [], ◌∷◌, map}
use mathlib.Core.Bool.{Bool, true, false, ◌&&◌, ◌||◌, cond, and-eq-true_iff}
use mathlib.Core.Logic.{◌⊎◌, inl, inr}
use lib.Dec.{eqb, leb, ltb}
use lib.ListN.{length}
use borrow.Author.Tests.{leb-true, leb-false, eqb-true}
use Rattle.std.specs.Prelude.{Some, None}
use Rattle.csv_text.specs.Lines.{malformed, all, onto_first, fields_of, is_digit, value_of, is_number, four, record_of_fields, record_of}
use Rattle.csv_text.specs.Reading.{Step, reader_start, skipping, comma, digit, in_line, with_cr, plain, record_so_far, fed, LongLine, WithinLine, none, byte, Skipped}
use Rattle.csv_text.specs.declared.reader.Reader.{Reader}

-- ---- what a long line says

-- the bytes of these fields, with one more for each, as if a comma ended it
unfoldable total : List (List ℕ) → ℕ
total [] = 0
total (f ∷ fs) = suc (length f) + total fs

total_onto : (b : ℕ) (fs : List (List ℕ)) → total fs < total (onto_first b fs)
unfolding total onto_first
total_onto b [] = omega arith
total_onto b (f ∷ fs) = omega arith

-- no byte of a line is lost
total_fields : (l : List ℕ) → length l < total (fields_of l)
unfolding total fields_of
total_fields [] = omega arith
total_fields (b ∷ l) = go (eqb b 44) (total_fields l)
  where
    go : (x : Bool) → length l < total (fields_of l) → suc (length l) < total (cond x ([] ∷ fields_of l) (onto_first b (fields_of l)))
    go true h = omega arith
    go false h = omega (arith, total_onto b (fields_of l))

number_short : (f : List ℕ) → is_number f ≡ true → length f ≤ 5
unfolding is_number
number_short f e = leb-true (length f) 5 ((and-eq-true_iff (leb (length f) 5) _).0 ((and-eq-true_iff (leb 1 (length f)) _).0 e).1).0

numbers_short : (fs : List (List ℕ)) → all is_number fs ≡ true → total fs ≤ 6 * length fs
unfolding total all
numbers_short [] e = omega arith
numbers_short (f ∷ fs) e =
    let h : (is_number f ≡ true) × (all is_number fs ≡ true) = (and-eq-true_iff (is_number f) (all is_number fs)).0 e in
    omega (arith, number_short f h.0, numbers_short fs h.1)

-- four numbers have at most five digits each
long_fields : (fs : List (List ℕ)) → 24 < total fs → record_of_fields fs ≡ malformed
unfolding record_of_fields
long_fields fs h = go (eqb (length fs) 4) (all is_number fs) refl refl
  where
    go : (x y : Bool) → eqb (length fs) 4 ≡ x → all is_number fs ≡ y → cond (x && y) (four (map value_of fs)) malformed ≡ malformed
    go true true e f = absurd (omega (arith, eqb-true (length fs) 4 e, numbers_short fs f))
    go true false e f = refl
    go false y e f = refl

-- four times five digits, and three commas
over_23 : (l : List ℕ) → 23 < length l → record_of l ≡ malformed
unfolding record_of
over_23 l h = long_fields (fields_of l) (omega (arith, total_fields l))

pub long_line : LongLine
long_line l h = over_23 l (omega arith)

-- ---- what the reader holds of a long line

abbrev Skips : Reader → Type 0
Skips t = (t ≡ skipping) ⊎ (t ≡ with_cr skipping)

skips_on : (b : ℕ) → Skips (plain skipping b)
unfolding plain in_line comma digit
skips_on b = go (eqb b 13) (eqb b 44) (is_digit b)
  where
    go : (x y z : Bool) → Skips (cond x (with_cr skipping) (cond y (comma skipping) (cond z (digit skipping b) skipping)))
    go true y z = inr refl
    go false true z = inl refl
    go false false true = inl refl
    go false false false = inl refl

-- a reader after n bytes of a line: it skips the line, or they were at most six for each finished field, the digits of the next one, and a CR
data After (n : ℕ) (s : Reader) : Type 0 where
  counted : n ≤ 6 * s.field + s.digits + s.cr → s.field ≤ 3 → s.digits ≤ 5 → s.cr ≤ 1 → After n s
  skips : Skips s → After n s

after_comma : (n : ℕ) (s : Reader) → n ≤ 6 * s.field + s.digits → s.digits ≤ 5 → After (suc n) (comma s)
unfolding comma
after_comma n s h d = go (leb 3 s.field) (eqb s.digits 0) refl
  where
    go : (x y : Bool) → leb 3 s.field ≡ x
        → After (suc n) (cond (x || y) skipping (record { cr = 0; field = s.field + 1; digits = 0; a = s.b; b = s.c; c = s.d; d = 0 }))
    go true y e = skips (inl refl)
    go false true e = skips (inl refl)
    go false false e = counted (omega arith) (omega (arith, leb-false 3 s.field e)) (omega arith) (omega arith)

after_digit : (n : ℕ) (s : Reader) (b : ℕ) → n ≤ 6 * s.field + s.digits → s.field ≤ 3 → After (suc n) (digit s b)
unfolding digit
after_digit n s b h f = go (leb 5 s.digits) (ltb 65535 (s.d * 10 + (b - 48))) refl
  where
    go : (x y : Bool) → leb 5 s.digits ≡ x
        → After (suc n) (cond (x || y) skipping
        (record { cr = 0; field = s.field; digits = s.digits + 1; a = s.a; b = s.b; c = s.c; d = s.d * 10 + (b - 48) }))
    go true y e = skips (inl refl)
    go false true e = skips (inl refl)
    go false false e = counted (omega arith) f (omega (arith, leb-false 5 s.digits e)) (omega arith)

-- a byte with no CR before it
after_plain : (n : ℕ) (s : Reader) (b : ℕ) → s.cr ≡ 0 → After n s → After (suc n) (plain s b)
unfolding plain in_line
after_plain n s b p (skips (inl e)) = subst⁻¹ (λ (r : Reader). After (suc n) (plain r b)) e (skips (skips_on b))
after_plain n s b p (skips (inr e)) = absurd (omega (arith, ap (λ (r : Reader). r.cr) e))
after_plain n s b p (counted h f d c) = go (eqb b 13) (eqb b 44) (is_digit b)
  where
    go : (x y z : Bool) → After (suc n) (cond x (with_cr s) (cond y (comma s) (cond z (digit s b) skipping)))
    go true y z = counted (omega arith) f d (omega arith)
    go false true z = after_comma n s (omega arith) d
    go false false true = after_digit n s b (omega arith) f
    go false false false = skips (inl refl)

-- after a byte, if it does not end the line
abbrev AfterStep : ℕ → Step → Type 0
AfterStep n (s, None) = After n s
AfterStep n (s, Some r) = Unit

after_fed : (n : ℕ) (s : Reader) (b : ℕ) → After n s → AfterStep (suc n) (fed s b)
unfolding fed
after_fed n s b h = go (eqb s.cr 0) (eqb b 10) refl
  where
    go : (x y : Bool) → eqb s.cr 0 ≡ x
        → AfterStep (suc n) (cond x (plain s b, None) (cond y (reader_start, Some (record_so_far s)) (plain skipping b, None)))
    go true y e = after_plain n s b (eqb-true s.cr 0 e) h
    go false true e = tt
    go false false e = skips (skips_on b)

-- a line that is not skipped has at most three finished fields, five digits and a CR: 24 bytes
skips_long : (n : ℕ) {s t : Reader} {l : List ℕ} → WithinLine s l t → After n s → 24 < n + length l → Skips t
skips_long n none (skips h) long = h
skips_long n none (counted h f d c) long = absurd (omega arith)
skips_long n {s} (byte b next e h) a long = skips_long (suc n) h (subst (AfterStep (suc n)) e (after_fed n s b a)) (omega arith)

pub skipped : Skipped
skipped l t h long = skips_long 0 h (counted (omega arith) (omega arith) (omega arith) (omega arith)) (omega arith)
