-- A byte inside a line: malformed whatever follows, the end of a field, or a digit. Assumes nothing.
use Prim.Native.Nat.{ℕ, suc, ◌+◌, ◌*◌, ◌-◌, ◌≤◌, ◌<◌}
use native.Mathlib.Omega.{arith}
use mathlib.Core.Path.{◌≡◌, refl, sym, ◌∙◌}
use mathlib.Core.List.{List, [], ◌∷◌}
use mathlib.Core.Bool.{Bool, true, false, ◌&&◌, ◌||◌, cond, and-false, and_assoc}
use lib.Dec.{eqb, leb, ltb}
use lib.ListN.{length}
use borrow.Author.Tests.{leb-true, leb-false, ltb-true, ltb-false, eqb-true, eqb-false, le-leb, lt-leb, lt-ltb, le-ltb, ne_eqb}
use Rattle.csv_text.specs.Lines.{malformed, all, onto_first, fields_of, is_digit, value_from}
use Rattle.csv_text.proofs.Meaning.{grows, record_from}
use Rattle.csv_text.specs.Reading.{skipping, comma, digit, in_line}
use Rattle.csv_text.specs.declared.reader.Reader.{Reader}
use Rattle.csv_text.proofs.Numbers.{number_grows}
use Rattle.csv_text.proofs.Parts.{Some, fields_comma, fields_other, fields_some}

-- four fields are finished
pub dead_line : (s : Reader) (fs : List (List ℕ)) → s.field ≡ 4 → record_from s fs ≡ malformed
unfolding record_from
dead_line s [] h = refl
dead_line s (f ∷ fs) h = rw (ne_eqb (s.field + length fs) 3 (λ e. omega arith))

pub fourth_comma : (s : Reader) (l : List ℕ) → 3 ≤ s.field → record_from s (fields_of (44 ∷ l)) ≡ malformed
unfolding record_from
fourth_comma s l h =
    let f : Some (fields_of l) = fields_some l in
    rw (fields_comma l, f.split, ne_eqb (s.field + suc (length f.tail)) 3 (λ e. omega arith))

pub empty_field : (s : Reader) (l : List ℕ) → s.digits ≡ 0 → record_from s (fields_of (44 ∷ l)) ≡ malformed
unfolding record_from
empty_field s l h = rw (fields_comma l) (simp (lt-leb 1 (s.digits + 0) (omega arith), and-false))

onto_malformed : (s : Reader) (b : ℕ) (fs : List (List ℕ)) → ((f : List ℕ) → grows s.digits s.d (b ∷ f) ≡ false) → record_from s (onto_first b fs) ≡ malformed
unfolding record_from onto_first
onto_malformed s b [] h = simp (h [], and-false)
onto_malformed s b (f ∷ fs) h = simp (h f, and-false)

pub no_digit : (s : Reader) (b : ℕ) (l : List ℕ) → (b ≡ 44 → ⊥) → (leb 48 b && leb b 57) ≡ false → record_from s (fields_of (b ∷ l)) ≡ malformed
unfolding grows
no_digit s b l n h = rw (fields_other b l n) (onto_malformed s b (fields_of l) (λ f. rw h))

pub sixth_digit : (s : Reader) (b : ℕ) (l : List ℕ) → 48 ≤ b → 5 ≤ s.digits → record_from s (fields_of (b ∷ l)) ≡ malformed
unfolding grows
sixth_digit s b l n h = rw (fields_other b l (λ e. omega arith)) (onto_malformed s b (fields_of l) (λ f. simp (le-ltb s.digits 5 h, and-false)))

pub too_large : (s : Reader) (b : ℕ) (l : List ℕ) → 48 ≤ b → 65535 < s.d * 10 + (b - 48) → record_from s (fields_of (b ∷ l)) ≡ malformed
unfolding grows
too_large s b l n h = rw (fields_other b l (λ e. omega arith)) (onto_malformed s b (fields_of l) (λ f. simp (lt-leb (s.d * 10 + (b - 48)) 65535 h, and-false)))

-- ---- what a byte of a line makes of a reader

-- the reader r says of any rest of the line what s says of the byte and that rest
pub record Takes (s : Reader) (byte : ℕ) (r : Reader) : Type 0 where
  pub line_says : (l : List ℕ) → record_from s (fields_of (byte ∷ l)) ≡ record_from r (fields_of l)
  pub begun : eqb (r.field + r.digits) 0 ≡ false
  pub plain : r.cr ≡ 0

takes_skipping : (s : Reader) (b : ℕ) → ((l : List ℕ) → record_from s (fields_of (b ∷ l)) ≡ malformed) → Takes s b skipping
takes_skipping s b h = record { line_says = λ l. h l ∙ sym (dead_line skipping (fields_of l) refl); begun = refl; plain = refl }

-- a field is finished

abbrev next_field : Reader → Reader
next_field s = record { cr = 0; field = s.field + 1; digits = 0; a = s.b; b = s.c; c = s.d; d = 0 }

comma_record : (s : Reader) (f : List ℕ) (fs : List (List ℕ)) → 1 ≤ s.digits → record_from s ([] ∷ (f ∷ fs)) ≡ record_from (next_field s) (f ∷ fs)
unfolding record_from grows value_from all
comma_record s f fs h =
    let shift : s.field + suc (length fs) ≡ s.field + 1 + length fs = omega arith in
    let plain : 0 + length f ≡ length f = omega arith in
    simp (le-leb 1 (s.digits + 0) (omega arith), shift, number_grows f, plain, and_assoc)

takes_next_field : (s : Reader) → 1 ≤ s.digits → Takes s 44 (next_field s)
takes_next_field s h = record {
  line_says = λ l. let f : Some (fields_of l) = fields_some l in rw (fields_comma l, f.split) (comma_record s f.head f.tail h);
  begun = ne_eqb (s.field + 1 + 0) 0 (λ e. omega arith);
  plain = refl;
}

takes_comma : (s : Reader) → Takes s 44 (comma s)
unfolding comma
takes_comma s = go (leb 3 s.field) (eqb s.digits 0) refl refl
  where
    go : (x y : Bool) → leb 3 s.field ≡ x → eqb s.digits 0 ≡ y → Takes s 44 (cond (x || y) skipping (next_field s))
    go true y e f = takes_skipping s 44 (λ l. fourth_comma s l (leb-true 3 s.field e))
    go false true e f = takes_skipping s 44 (λ l. empty_field s l (eqb-true s.digits 0 f))
    go false false e f = takes_next_field s (omega (arith, eqb-false s.digits 0 f))

-- a digit

abbrev with_digit : Reader → ℕ → Reader
with_digit s v = record { cr = 0; field = s.field; digits = s.digits + 1; a = s.a; b = s.b; c = s.c; d = v }

digit_record : (s : Reader) (b : ℕ) (f : List ℕ) (fs : List (List ℕ)) → (48 ≤ b) × (b ≤ 57) → s.digits < 5 → s.d * 10 + (b - 48) ≤ 65535
    → record_from s ((b ∷ f) ∷ fs) ≡ record_from (with_digit s (s.d * 10 + (b - 48))) (f ∷ fs)
unfolding record_from grows value_from
digit_record s b f fs h n v =
    let shift : s.digits + suc (length f) ≡ s.digits + 1 + length f = omega arith in
    simp (shift, le-leb 48 b h.0, le-leb b 57 h.1, lt-ltb s.digits 5 n, le-leb (s.d * 10 + (b - 48)) 65535 v)

takes_one_digit : (s : Reader) (b : ℕ) → (48 ≤ b) × (b ≤ 57) → s.digits < 5 → s.d * 10 + (b - 48) ≤ 65535 → Takes s b (with_digit s (s.d * 10 + (b - 48)))
unfolding onto_first
takes_one_digit s b h n v = record {
  line_says = λ l. let f : Some (fields_of l) = fields_some l in rw (fields_other b l (λ e. omega arith), f.split) (digit_record s b f.head f.tail h n v);
  begun = ne_eqb (s.field + (s.digits + 1)) 0 (λ e. omega arith);
  plain = refl;
}

takes_digit : (s : Reader) (b : ℕ) → (48 ≤ b) × (b ≤ 57) → Takes s b (digit s b)
unfolding digit
takes_digit s b h = go (leb 5 s.digits) (ltb 65535 (s.d * 10 + (b - 48))) refl refl
  where
    go : (x y : Bool) → leb 5 s.digits ≡ x → ltb 65535 (s.d * 10 + (b - 48)) ≡ y → Takes s b (cond (x || y) skipping (with_digit s (s.d * 10 + (b - 48))))
    go true y e f = takes_skipping s b (λ l. sixth_digit s b l h.0 (leb-true 5 s.digits e))
    go false true e f = takes_skipping s b (λ l. too_large s b l h.0 (ltb-true 65535 (s.d * 10 + (b - 48)) f))
    go false false e f = takes_one_digit s b h (leb-false 5 s.digits e) (ltb-false 65535 (s.d * 10 + (b - 48)) f)

-- any byte

digit_range : (b : ℕ) → is_digit b ≡ true → (48 ≤ b) × (b ≤ 57)
digit_range b e = go (leb 48 b) (leb b 57) refl refl e
  where
    go : (x y : Bool) → leb 48 b ≡ x → leb b 57 ≡ y → (x && y) ≡ true → (48 ≤ b) × (b ≤ 57)
    go true true p q e = (leb-true 48 b p, leb-true b 57 q)
    go true false p q e = absurd (mathlib.Core.Bool.false≢true e)
    go false y p q e = absurd (mathlib.Core.Bool.false≢true e)

pub takes : (s : Reader) (b : ℕ) → Takes s b (in_line s b)
unfolding in_line
takes s b = go (eqb b 44) (is_digit b) refl refl
  where
    go : (x y : Bool) → eqb b 44 ≡ x → is_digit b ≡ y → Takes s b (cond x (comma s) (cond y (digit s b) skipping))
    go true y e f = rw (eqb-true b 44 e) (takes_comma s)
    go false true e f = takes_digit s b (digit_range b f)
    go false false e f = takes_skipping s b (λ l. no_digit s b l (eqb-false b 44 e) f)
