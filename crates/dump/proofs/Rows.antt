-- The entries of a line, as its fields end. Assumes nothing.
use Prim.Native.Nat.{ℕ, suc, ◌+◌, ◌≤◌, ◌<◌}
use native.Mathlib.Omega.{arith}
use mathlib.Core.Path.{◌≡◌, refl, ap}
use mathlib.Core.List.{List, [], ◌∷◌, ◌++◌, map, append_assoc}
use mathlib.Core.Bool.{Bool, true, false, ◌&&◌, ◌||◌, not, cond, and_assoc, or-true}
use lib.Dec.{eqb, leb}
use lib.ListN.{length, length-append, length-replicate}
use borrow.Author.Tests.{leb-true, leb-false, eqb-true, eqb-false, le-leb, lt-leb, ne_eqb}
use Rattle.csv_text.specs.Lines.{all, fields_of, value_from, value_of, is_number}
use Rattle.csv_text.proofs.Meaning.{grows}
use Rattle.csv_text.proofs.Numbers.{number_grows}
use Rattle.csv_text.proofs.Parts.{Some, fields_some}
use Rattle.dump.specs.Dumps.{unfit, table_of}
use Rattle.dump.specs.Reading.{State, with, spoiled, entered, with_cr}
use Rattle.dump.specs.Holding.{size}
use Rattle.dump.proofs.Cases.{no_field, no_room, with_entry, one_more}
use Rattle.dump.proofs.Meaning.{row_from, line_from}

pub unfit_long : length unfit ≡ 12355
unfolding unfit
unfit_long = length-replicate {A = ℕ} 12355 0

-- a table that fits no N makes the heap too large
pub heavy : (ts : List (List ℕ)) (t : List ℕ) → t ≡ unfit → 12354 < size ts + length t
heavy ts t e = rw e (omega (arith, unfit_long))

-- a line that goes on has a field
pub line_cons : (s : State) (b : ℕ) (l : List ℕ) → line_from s (b ∷ l) ≡ row_from s (fields_of (b ∷ l))
unfolding line_from
line_cons s b l = rw (ne_eqb (suc (length l)) 0 (λ e. omega arith), or-true)

pub line_begun : (s : State) (l : List ℕ) → s.reader.begun ≡ true → line_from s l ≡ row_from s (fields_of l)
unfolding line_from
line_begun s l e = ap (λ t. cond (t || not (eqb (length l) 0)) (row_from s (fields_of l)) s.row) e

pub line_empty : (s : State) → s.reader.begun ≡ false → line_from s [] ≡ s.row
unfolding line_from
line_empty s e = ap (λ t. cond (t || not (eqb 0 0)) (row_from s (fields_of [])) s.row) e

-- a CR that is held back is no part of the line
row_cr : (s : State) (fs : List (List ℕ)) → row_from s fs ≡ row_from (with s (with_cr s.reader)) fs
unfolding row_from
row_cr s [] = refl
row_cr s (f ∷ fs) = refl

pub line_cr : (s : State) (l : List ℕ) → line_from s l ≡ line_from (with s (with_cr s.reader)) l
unfolding line_from
line_cr s l = ap (λ (t : List ℕ). cond (s.reader.begun || not (eqb (length l) 0)) t s.row) (row_cr s (fields_of l))

-- ---- the end of a field

row_empty : (s : State) (gs : List (List ℕ)) → s.reader.digits ≡ 0 → row_from s ([] ∷ gs) ≡ unfit
unfolding row_from
row_empty s gs h = rw (lt-leb 1 (s.reader.digits + 0) (omega arith))

row_full : (s : State) (ts gs : List (List ℕ)) → 12354 ≤ size ts + length s.row → 12354 < size ts + length (row_from s ([] ∷ gs))
unfolding row_from
row_full s ts gs h = go (leb 1 (s.reader.digits + 0) && (grows s.reader.digits s.reader.value [] && all is_number gs))
  where
    go : (x : Bool) → 12354 < size ts + length (cond x (s.row ++ (value_from s.reader.value [] ∷ map value_of gs)) unfit)
    go true = omega (arith, length-append s.row (value_from s.reader.value [] ∷ map value_of gs))
    go false = heavy ts unfit refl

-- another field follows
pub row_entry : (s : State) (f : List ℕ) (fs : List (List ℕ)) → (s.reader.digits ≡ 0 → ⊥) → row_from s ([] ∷ (f ∷ fs)) ≡ row_from (with_entry s) (f ∷ fs)
unfolding row_from grows value_from all
row_entry s f fs n =
    let plain : 0 + length f ≡ length f = omega arith in
    simp (le-leb 1 (s.reader.digits + 0) (omega (arith, n)), number_grows f, plain, and_assoc, append_assoc)

-- no other field follows
pub row_last : (s : State) → (s.reader.digits ≡ 0 → ⊥) → row_from s ([] ∷ []) ≡ s.row ++ (s.reader.value ∷ [])
unfolding row_from grows value_from all
row_last s n = rw (le-leb 1 (s.reader.digits + 0) (omega (arith, n)))

-- a field ends: the heap is spoilt, and has too many entries; or there is one entry more
pub data Entered (s : State) : Type 0 where
  spoils : entered s ≡ spoiled s
      → ((ts gs : List (List ℕ)) → s.reader.end ≡ size ts + length s.row → 12354 < size ts + length (row_from s ([] ∷ gs))) → Entered s
  stores : entered s ≡ with_entry s → (s.reader.digits ≡ 0 → ⊥) → Entered s

pub field_ends : (s : State) → Entered s
field_ends s = go (eqb s.reader.digits 0) (leb 12354 s.reader.end) refl refl
  where
    go : (x y : Bool) → eqb s.reader.digits 0 ≡ x → leb 12354 s.reader.end ≡ y → Entered s
    go true y e f =
        let empty : s.reader.digits ≡ 0 = eqb-true s.reader.digits 0 e in
        spoils (no_field s empty) (λ ts gs h. heavy ts (row_from s ([] ∷ gs)) (row_empty s gs empty))
    go false true e f =
        let full : 12354 ≤ s.reader.end = leb-true 12354 s.reader.end f in
        spoils (no_room s full) (λ ts gs h. row_full s ts gs (omega arith))
    go false false e f =
        let some : s.reader.digits ≡ 0 → ⊥ = eqb-false s.reader.digits 0 e in
        stores (one_more s some (leb-false 12354 s.reader.end f)) some

-- ---- a line that begins

-- nothing was read of the next line
abbrev between : ℕ → ℕ → Bool → List (List ℕ) → State
between tables end spoilt ts =
    record { reader = record { tables = tables; end = end; digits = 0; value = 0; begun = false; cr = false; spoilt = spoilt }; finished = ts; row = [] }

pub fresh_line : (tables end : ℕ) (spoilt : Bool) (ts : List (List ℕ)) (l : List ℕ) → table_of l ≡ line_from (between tables end spoilt ts) l
unfolding table_of line_from row_from all
fresh_line tables end spoilt ts [] = refl
fresh_line tables end spoilt ts (b ∷ l) =
    let f : Some (fields_of (b ∷ l)) = fields_some (b ∷ l) in
    let plain : 0 + length f.head ≡ length f.head = omega arith in
    rw (ne_eqb (suc (length l)) 0 (λ e. omega arith), f.split) (simp (number_grows f.head, plain, and_assoc))
