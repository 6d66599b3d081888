-- What the rules make of a byte and of the end, case by case. Assumes nothing.
use Prim.Native.Nat.{ℕ, ◌+◌, ◌*◌, ◌-◌, ◌≤◌, ◌<◌}
use native.Mathlib.Omega.{arith}
use mathlib.Core.Path.{◌≡◌, refl}
use mathlib.Core.Bool.{true, false, or-true, and-false}
use borrow.Author.Tests.{le-leb, lt-leb, lt-ltb, le-ltb, eq-eqb, ne_eqb}
use Rattle.csv_text.specs.Lines.{numbers, malformed, is_digit}
use Rattle.csv_text.specs.Reading.{reader_start, skipping, comma, digit, in_line, with_cr, plain, record_so_far, fed, closed}
use Rattle.csv_text.specs.declared.reader.Reader.{Reader}
use Rattle.std.specs.Prelude.{Some, None}

-- ---- a comma

pub fourth_field : (s : Reader) → 3 ≤ s.field → skipping ≡ comma s
unfolding comma
fourth_field s h = rw (le-leb 3 s.field h) refl

pub no_field : (s : Reader) → s.digits ≡ 0 → skipping ≡ comma s
unfolding comma
no_field s h = rw (eq-eqb s.digits 0 h, or-true) refl

pub next_field_lem : (s : Reader) → s.field < 3 → (s.digits ≡ 0 → ⊥)
    → record { cr = 0; field = s.field + 1; digits = 0; a = s.b; b = s.c; c = s.d; d = 0 } ≡ comma s
unfolding comma
next_field_lem s h n = rw (lt-leb 3 s.field h, ne_eqb s.digits 0 n) refl

-- ---- a digit

pub sixth_digit : (s : Reader) (b : ℕ) → 5 ≤ s.digits → skipping ≡ digit s b
unfolding digit
sixth_digit s b h = rw (le-leb 5 s.digits h) refl

pub large_value : (s : Reader) (b : ℕ) → 65535 < s.d * 10 + (b - 48) → skipping ≡ digit s b
unfolding digit
large_value s b h = rw (lt-ltb 65535 (s.d * 10 + (b - 48)) h, or-true) refl

pub next_digit : (s : Reader) (b value : ℕ) → value ≡ s.d * 10 + (b - 48) → s.digits < 5 → value ≤ 65535
    → record { cr = 0; field = s.field; digits = s.digits + 1; a = s.a; b = s.b; c = s.c; d = value } ≡ digit s b
unfolding digit
next_digit s b value f h v = rw (f, lt-leb 5 s.digits h, le-ltb 65535 (s.d * 10 + (b - 48)) (omega arith)) refl

-- ---- a byte of a line

pub line_comma : (s : Reader) (b : ℕ) → b ≡ 44 → comma s ≡ in_line s b
unfolding in_line
line_comma s b e = rw (eq-eqb b 44 e) refl

pub line_digit : (s : Reader) (b : ℕ) → (b ≡ 44 → ⊥) → is_digit b ≡ true → digit s b ≡ in_line s b
unfolding in_line
line_digit s b n d = rw (ne_eqb b 44 n, d) refl

pub line_other : (s : Reader) (b : ℕ) → (b ≡ 44 → ⊥) → is_digit b ≡ false → skipping ≡ in_line s b
unfolding in_line
line_other s b n d = rw (ne_eqb b 44 n, d) refl

-- ---- a byte with no CR before it

pub held_back : (s : Reader) (b : ℕ) → b ≡ 13 → with_cr s ≡ plain s b
unfolding plain
held_back s b e = rw (eq-eqb b 13 e) refl

pub line_byte : (s : Reader) (b : ℕ) → (b ≡ 13 → ⊥) → in_line s b ≡ plain s b
unfolding plain
line_byte s b n = rw (ne_eqb b 13 n) refl

-- ---- what a line says that ends here

pub not_four_fields : (s : Reader) → (s.field ≡ 3 → ⊥) → malformed ≡ record_so_far s
unfolding record_so_far
not_four_fields s n = rw (ne_eqb s.field 3 n) refl

pub last_field_empty : (s : Reader) → s.digits ≡ 0 → malformed ≡ record_so_far s
unfolding record_so_far
last_field_empty s e = rw (lt-leb 1 s.digits (omega arith), and-false) refl

pub four_numbers : (s : Reader) → s.field ≡ 3 → (s.digits ≡ 0 → ⊥) → numbers s.a s.b s.c s.d ≡ record_so_far s
unfolding record_so_far
four_numbers s e n = rw (eq-eqb s.field 3 e, le-leb 1 s.digits (omega (arith, n))) refl

-- ---- any byte

pub fed_plain : (s : Reader) (b : ℕ) → s.cr ≡ 0 → (plain s b, None) ≡ fed s b
unfolding fed
fed_plain s b e = rw (eq-eqb s.cr 0 e) refl

pub fed_line_end : (s : Reader) (b : ℕ) → (s.cr ≡ 0 → ⊥) → b ≡ 10 → (reader_start, Some (record_so_far s)) ≡ fed s b
unfolding fed
fed_line_end s b n e = rw (ne_eqb s.cr 0 n, eq-eqb b 10 e) refl

pub fed_lone_cr : (s : Reader) (b : ℕ) → (s.cr ≡ 0 → ⊥) → (b ≡ 10 → ⊥) → (plain skipping b, None) ≡ fed s b
unfolding fed
fed_lone_cr s b n m = rw (ne_eqb s.cr 0 n, ne_eqb b 10 m) refl

-- ---- the end

pub closed_lone_cr : (s : Reader) → (s.cr ≡ 0 → ⊥) → Some malformed ≡ closed s
unfolding closed
closed_lone_cr s n = rw (ne_eqb s.cr 0 n) refl

pub closed_nothing : (s : Reader) → s.cr ≡ 0 → s.field ≡ 0 → s.digits ≡ 0 → None ≡ closed s
unfolding closed
closed_nothing s e f g = rw (eq-eqb s.cr 0 e, eq-eqb s.field 0 f, eq-eqb s.digits 0 g) refl

pub closed_field : (s : Reader) → s.cr ≡ 0 → (s.field ≡ 0 → ⊥) → Some (record_so_far s) ≡ closed s
unfolding closed
closed_field s e n = rw (eq-eqb s.cr 0 e, ne_eqb s.field 0 n) refl

pub closed_digits : (s : Reader) → s.cr ≡ 0 → (s.digits ≡ 0 → ⊥) → Some (record_so_far s) ≡ closed s
unfolding closed
closed_digits s e n = rw (eq-eqb s.cr 0 e, ne_eqb s.digits 0 n, and-false) refl
