-- What the rules make of a byte and of the end, case by case. Assumes nothing.
use Prim.Native.Nat.{ℕ, ◌+◌, ◌*◌, ◌-◌, ◌≤◌, ◌<◌}
use native.Mathlib.Omega.{arith}
use mathlib.Core.Path.{◌≡◌, refl, ◌∙◌, ap}
use mathlib.Core.List.{[], ◌∷◌, ◌++◌}
use mathlib.Core.Bool.{Bool, true, false, ◌||◌, not, cond, or-true}
use lib.Dec.{eqb}
use borrow.Author.Tests.{le-leb, lt-leb, lt-ltb, le-ltb, eq-eqb, ne_eqb}
use Rattle.csv_text.specs.Lines.{is_digit}
use Rattle.dump.specs.declared.reader.Reader.{Reader}
use Rattle.dump.specs.Reading.{State, with, spoil, spoiled, digit, next_field, entered, in_line, with_cr, plain}
use Rattle.dump.specs.Reading.{last_field, line_end, fed, last_line, cut_short, whole}

-- ---- a digit

pub sixth_digit : (r : Reader) (b : ℕ) → 5 ≤ r.digits → digit r b ≡ spoil r
unfolding digit
sixth_digit r b h = rw (le-leb 5 r.digits h) refl

pub large_value : (r : Reader) (b : ℕ) → 65535 < r.value * 10 + (b - 48) → digit r b ≡ spoil r
unfolding digit
large_value r b h = rw (lt-ltb 65535 (r.value * 10 + (b - 48)) h, or-true) refl

-- the digit is taken up
abbrev pub with_digit : Reader → ℕ → ℕ → Reader
with_digit r digits value =
    record { tables = r.tables; end = r.end; digits = digits; value = value; begun = true; cr = r.cr; spoilt = r.spoilt }

pub next_digit : (r : Reader) (b digits value : ℕ) → digits ≡ r.digits + 1 → value ≡ r.value * 10 + (b - 48) → r.digits < 5 → value ≤ 65535
    → with_digit r digits value ≡ digit r b
unfolding digit
next_digit r b digits value e f h v = rw (e, f, lt-leb 5 r.digits h, le-ltb 65535 (r.value * 10 + (b - 48)) (omega arith)) refl

-- ---- the end of a field

pub no_field : (s : State) → s.reader.digits ≡ 0 → entered s ≡ spoiled s
unfolding entered
no_field s h = rw (eq-eqb s.reader.digits 0 h) refl

pub no_room : (s : State) → 12354 ≤ s.reader.end → entered s ≡ spoiled s
unfolding entered
no_room s h = rw (le-leb 12354 s.reader.end h, or-true) refl

-- the entry is stored
abbrev pub with_entry : State → State
with_entry s = record { reader = next_field s.reader; finished = s.finished; row = s.row ++ (s.reader.value ∷ []) }

pub one_more : (s : State) → (s.reader.digits ≡ 0 → ⊥) → s.reader.end < 12354 → entered s ≡ with_entry s
unfolding entered
one_more s n h = rw (ne_eqb s.reader.digits 0 n, lt-leb 12354 s.reader.end h) refl

-- ---- a byte of a line

abbrev by_kind : State → ℕ → Bool → Bool → Bool → State
by_kind s b x y z = cond x (spoiled s) (cond y (entered s) (cond z (with s (digit s.reader b)) (spoiled s)))

by_kind_lem : (s : State) (b : ℕ) (x y z : Bool) → s.reader.spoilt ≡ x → eqb b 44 ≡ y → is_digit b ≡ z → in_line s b ≡ by_kind s b x y z
unfolding in_line
by_kind_lem s b x y z e f g = ap (λ t. by_kind s b t (eqb b 44) (is_digit b)) e ∙ ap (λ t. by_kind s b x t (is_digit b)) f ∙ ap (by_kind s b x y) g

pub line_spoilt : (s : State) (b : ℕ) → s.reader.spoilt ≡ true → in_line s b ≡ spoiled s
line_spoilt s b e = by_kind_lem s b true (eqb b 44) (is_digit b) e refl refl

pub line_comma : (s : State) (b : ℕ) → s.reader.spoilt ≡ false → b ≡ 44 → in_line s b ≡ entered s
line_comma s b e f = by_kind_lem s b false true (is_digit b) e (eq-eqb b 44 f) refl

pub line_other : (s : State) (b : ℕ) → s.reader.spoilt ≡ false → (b ≡ 44 → ⊥) → is_digit b ≡ false → in_line s b ≡ spoiled s
line_other s b e n h = by_kind_lem s b false false false e (ne_eqb b 44 n) h

pub line_digit : (s : State) (b : ℕ) → s.reader.spoilt ≡ false → (b ≡ 44 → ⊥) → is_digit b ≡ true → in_line s b ≡ with s (digit s.reader b)
line_digit s b e n h = by_kind_lem s b false false true e (ne_eqb b 44 n) h

-- ---- a byte with no CR before it

pub held_back : (s : State) (b : ℕ) → b ≡ 13 → plain s b ≡ with s (with_cr s.reader)
unfolding plain
held_back s b e = rw (eq-eqb b 13 e) refl

pub line_byte : (s : State) (b : ℕ) → (b ≡ 13 → ⊥) → plain s b ≡ in_line s b
unfolding plain
line_byte s b n = rw (ne_eqb b 13 n) refl

-- ---- the end of a line

last_by : (s : State) (x y : Bool) → s.reader.spoilt ≡ x → s.reader.begun ≡ y → last_field s ≡ cond (x || not y) s (entered s)
unfolding last_field
last_by s x y e f = ap (λ t. cond (t || not s.reader.begun) s (entered s)) e ∙ ap (λ t. cond (x || not t) s (entered s)) f

pub last_spoilt : (s : State) → s.reader.spoilt ≡ true → last_field s ≡ s
last_spoilt s e = last_by s true s.reader.begun e refl

pub last_none : (s : State) → s.reader.begun ≡ false → last_field s ≡ s
last_none s f = last_by s s.reader.spoilt false refl f ∙ rw (or-true s.reader.spoilt)

pub last_entered : (s : State) → s.reader.spoilt ≡ false → s.reader.begun ≡ true → last_field s ≡ entered s
last_entered s e f = last_by s false true e f

-- ---- any byte

fed_by : (s : State) (b : ℕ) (x y : Bool) → s.reader.cr ≡ x → eqb b 10 ≡ y → fed s b ≡ cond x (cond y (line_end s) (plain (spoiled s) b)) (plain s b)
unfolding fed
fed_by s b x y e f =
    ap (λ t. cond t (cond (eqb b 10) (line_end s) (plain (spoiled s) b)) (plain s b)) e
    ∙ ap (λ t. cond x (cond t (line_end s) (plain (spoiled s) b)) (plain s b)) f

pub fed_plain : (s : State) (b : ℕ) → s.reader.cr ≡ false → fed s b ≡ plain s b
fed_plain s b e = fed_by s b false (eqb b 10) e refl

pub fed_line_end : (s : State) (b : ℕ) → s.reader.cr ≡ true → b ≡ 10 → fed s b ≡ line_end s
fed_line_end s b e f = fed_by s b true true e (eq-eqb b 10 f)

pub fed_lone_cr : (s : State) (b : ℕ) → s.reader.cr ≡ true → (b ≡ 10 → ⊥) → fed s b ≡ plain (spoiled s) b
fed_lone_cr s b e n = fed_by s b true false e (ne_eqb b 10 n)

-- ---- the end of the input

last_line_by : (s : State) (x y : Bool) → s.reader.cr ≡ x → s.reader.begun ≡ y → last_line s ≡ cond x (line_end (spoiled s)) (cond y (line_end s) s)
unfolding last_line
last_line_by s x y e f =
    ap (λ t. cond t (line_end (spoiled s)) (cond s.reader.begun (line_end s) s)) e
    ∙ ap (λ t. cond x (line_end (spoiled s)) (cond t (line_end s) s)) f

pub last_lone_cr : (s : State) → s.reader.cr ≡ true → last_line s ≡ line_end (spoiled s)
last_lone_cr s e = last_line_by s true s.reader.begun e refl

pub last_ends : (s : State) → s.reader.cr ≡ false → s.reader.begun ≡ true → last_line s ≡ line_end s
last_ends s e f = last_line_by s false true e f

pub last_nothing : (s : State) → s.reader.cr ≡ false → s.reader.begun ≡ false → last_line s ≡ s
last_nothing s e f = last_line_by s false false e f

pub whole_none : (s : State) → s.reader.tables ≡ 0 → whole s ≡ s
unfolding whole
whole_none s e = rw (eq-eqb s.reader.tables 0 e) refl

pub whole_all : (s : State) → s.reader.tables ≡ 7 → whole s ≡ s
unfolding whole
whole_all s e = rw (eq-eqb s.reader.tables 7 e, or-true) refl

pub whole_short : (s : State) → (s.reader.tables ≡ 0 → ⊥) → (s.reader.tables ≡ 7 → ⊥) → whole s ≡ with s (cut_short s.reader)
unfolding whole
whole_short s n m = rw (ne_eqb s.reader.tables 0 n, ne_eqb s.reader.tables 7 m) refl
