-- A byte of a line: the end of a field, a digit, or malformed whatever follows. Assumes nothing.
use Prim.Native.Nat.{ℕ, suc, ◌+◌, ◌*◌, ◌-◌, ◌≤◌, ◌<◌}
use native.Mathlib.Omega.{arith}
use mathlib.Core.Path.{◌≡◌, refl, sym, ap}
use mathlib.Core.List.{List, [], ◌∷◌}
use mathlib.Core.Bool.{Bool, true, false, and-false}
use lib.Dec.{leb, ltb}
use lib.ListN.{length}
use borrow.Author.Tests.{leb-true, leb-false, ltb-true, ltb-false, le-leb, lt-leb, lt-ltb, le-ltb}
use Rattle.csv_text.specs.Lines.{onto_first, fields_of, is_digit, value_from}
use Rattle.csv_text.proofs.Meaning.{grows}
use Rattle.csv_text.proofs.Parts.{Some, fields_comma, fields_other, fields_some}
use Rattle.dump.specs.declared.reader.Reader.{Reader}
use Rattle.dump.specs.Dumps.{unfit}
use Rattle.dump.specs.Reading.{State, with, spoil, digit}
use Rattle.dump.proofs.Cases.{with_entry, with_digit, sixth_digit, large_value, next_digit}
use Rattle.dump.proofs.Meaning.{row_from}
use Rattle.dump.proofs.Rows.{row_entry}

pub row_comma : (s : State) (l : List ℕ) → (s.reader.digits ≡ 0 → ⊥) → row_from s (fields_of (44 ∷ l)) ≡ row_from (with_entry s) (fields_of l)
row_comma s l n = let f : Some (fields_of l) = fields_some l in rw (fields_comma l, f.split) (row_entry s f.head f.tail n)

onto_unfit : (s : State) (b : ℕ) (fs : List (List ℕ)) → ((f : List ℕ) → grows s.reader.digits s.reader.value (b ∷ f) ≡ false)
    → row_from s (onto_first b fs) ≡ unfit
unfolding row_from onto_first
onto_unfit s b [] h = simp (h [], and-false)
onto_unfit s b (f ∷ fs) h = simp (h f, and-false)

pub row_other : (s : State) (b : ℕ) (l : List ℕ) → (b ≡ 44 → ⊥) → is_digit b ≡ false → row_from s (fields_of (b ∷ l)) ≡ unfit
unfolding grows
row_other s b l n h = rw (fields_other b l n) (onto_unfit s b (fields_of l) (λ f. rw h))

sixth : (s : State) (b : ℕ) (l : List ℕ) → (b ≡ 44 → ⊥) → 5 ≤ s.reader.digits → row_from s (fields_of (b ∷ l)) ≡ unfit
unfolding grows
sixth s b l n h = rw (fields_other b l n) (onto_unfit s b (fields_of l) (λ f. simp (le-ltb s.reader.digits 5 h, and-false)))

large : (s : State) (b : ℕ) (l : List ℕ) → (b ≡ 44 → ⊥) → 65535 < s.reader.value * 10 + (b - 48) → row_from s (fields_of (b ∷ l)) ≡ unfit
unfolding grows
large s b l n h = rw (fields_other b l n) (onto_unfit s b (fields_of l) (λ f. simp (lt-leb (s.reader.value * 10 + (b - 48)) 65535 h, and-false)))

-- the digit is taken up
abbrev pub taken : State → ℕ → State
taken s b = with s (with_digit s.reader (s.reader.digits + 1) (s.reader.value * 10 + (b - 48)))

row_grows : (s : State) (b : ℕ) (f : List ℕ) (fs : List (List ℕ)) → is_digit b ≡ true → s.reader.digits < 5 → s.reader.value * 10 + (b - 48) ≤ 65535
    → row_from s ((b ∷ f) ∷ fs) ≡ row_from (taken s b) (f ∷ fs)
unfolding row_from grows value_from
row_grows s b f fs h n v =
    let shift : s.reader.digits + suc (length f) ≡ s.reader.digits + 1 + length f = omega arith in
    simp (shift, h, lt-ltb s.reader.digits 5 n, le-leb (s.reader.value * 10 + (b - 48)) 65535 v)

row_taken : (s : State) (b : ℕ) (l : List ℕ) → (b ≡ 44 → ⊥) → is_digit b ≡ true → s.reader.digits < 5 → s.reader.value * 10 + (b - 48) ≤ 65535
    → row_from s (fields_of (b ∷ l)) ≡ row_from (taken s b) (fields_of l)
unfolding onto_first
row_taken s b l m h n v = let f : Some (fields_of l) = fields_some l in rw (fields_other b l m, f.split) (row_grows s b f.head f.tail h n v)

-- a digit: the heap is spoilt, and the line fits no N; or it is taken up
pub data Digit (s : State) (b : ℕ) : Type 0 where
  refused : digit s.reader b ≡ spoil s.reader → ((l : List ℕ) → row_from s (fields_of (b ∷ l)) ≡ unfit) → Digit s b
  takes : with s (digit s.reader b) ≡ taken s b → ((l : List ℕ) → row_from s (fields_of (b ∷ l)) ≡ row_from (taken s b) (fields_of l)) → Digit s b

pub a_digit : (s : State) (b : ℕ) → (b ≡ 44 → ⊥) → is_digit b ≡ true → Digit s b
a_digit s b n d = go (leb 5 s.reader.digits) (ltb 65535 (s.reader.value * 10 + (b - 48))) refl refl
  where
    go : (x y : Bool) → leb 5 s.reader.digits ≡ x → ltb 65535 (s.reader.value * 10 + (b - 48)) ≡ y → Digit s b
    go true y e f =
        let many : 5 ≤ s.reader.digits = leb-true 5 s.reader.digits e in
        refused (sixth_digit s.reader b many) (λ l. sixth s b l n many)
    go false true e f =
        let much : 65535 < s.reader.value * 10 + (b - 48) = ltb-true 65535 (s.reader.value * 10 + (b - 48)) f in
        refused (large_value s.reader b much) (λ l. large s b l n much)
    go false false e f =
        let few : s.reader.digits < 5 = leb-false 5 s.reader.digits e in
        let little : s.reader.value * 10 + (b - 48) ≤ 65535 = ltb-false 65535 (s.reader.value * 10 + (b - 48)) f in
        takes (ap (λ (r : Reader). with s r) (sym (next_digit s.reader b (s.reader.digits + 1) (s.reader.value * 10 + (b - 48)) refl refl few little)))
        (λ l. row_taken s b l n d few little)
