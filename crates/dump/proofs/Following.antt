-- A byte inside a line: the state that the rules go on with follows what was read. Assumes nothing.
use Prim.Native.Nat.{ℕ, ◌+◌, ◌<◌}
use native.Mathlib.Omega.{arith}
use mathlib.Core.Path.{◌≡◌, refl, sym, ◌∙◌, ap, subst⁻¹}
use mathlib.Core.List.{List, [], ◌∷◌, ◌++◌}
use mathlib.Core.Bool.{Bool, true, false, not}
use lib.Dec.{eqb}
use lib.ListN.{length, length-append}
use lib.Seq.{append_snoc}
use borrow.Author.Tests.{eqb-true, eqb-false, ne_eqb}
use Rattle.csv_text.specs.Lines.{fields_of, is_digit}
use Rattle.csv_text.proofs.Parts.{fields_comma}
use Rattle.dump.specs.declared.reader.Reader.{Reader}
use Rattle.dump.specs.Dumps.{unfit, table_of}
use Rattle.dump.specs.Reading.{State, with, spoiled, digit, entered, in_line, with_cr}
use Rattle.dump.specs.Holding.{size}
use Rattle.dump.proofs.Cases.{line_spoilt, line_comma, line_other, line_digit, with_entry}
use Rattle.dump.proofs.Meaning.{row_from, line_from, Knows, Follows}
use Rattle.dump.proofs.Meaning.Knows.{exactly, over}
use Rattle.dump.proofs.Rows.{heavy, line_cons, line_begun, line_cr, Entered, spoils, stores, field_ends}
use Rattle.dump.proofs.RowBytes.{row_comma, row_other, Digit, refused, takes, a_digit, taken}

-- ---- a byte of a line

-- the state after one more byte of the line
pub record Taken (s : State) (ts : List (List ℕ)) (p : List ℕ) (t : State) : Type 0 where
  pub count : t.reader.tables ≡ s.reader.tables
  pub begun : t.reader.begun ≡ true
  pub plain : t.reader.cr ≡ false
  pub knows : Knows t ts p

module _ (s : State) (ts : List (List ℕ)) (p : List ℕ) (b : ℕ) where
  -- whatever follows, the heap has too many entries
  taken_spoiled : ((l : List ℕ) → 12354 < size ts + length (table_of (p ++ (b ∷ l)))) → Taken s ts (p ++ (b ∷ [])) (spoiled s)
  taken_spoiled h = record { count = refl; begun = refl; plain = refl; knows = over refl (λ l. rw (append_snoc p b l) (h l)) }

  module _ (fit : s.reader.spoilt ≡ false) (same : s.finished ≡ ts) (end : s.reader.end ≡ size ts + length s.row)
      (says : (l : List ℕ) → table_of (p ++ l) ≡ line_from s l) (plain : s.reader.cr ≡ false) where
    says_row : (l : List ℕ) → table_of (p ++ (b ∷ l)) ≡ row_from s (fields_of (b ∷ l))
    says_row l = says (b ∷ l) ∙ line_cons s b l

    taken_unfit : ((l : List ℕ) → row_from s (fields_of (b ∷ l)) ≡ unfit) → Taken s ts (p ++ (b ∷ [])) (spoiled s)
    taken_unfit h = taken_spoiled (λ l. heavy ts (table_of (p ++ (b ∷ l))) (says_row l ∙ h l))

    -- the state t goes on with the line
    goes_on : (t : State) → t.reader.begun ≡ true → ((l : List ℕ) → row_from s (fields_of (b ∷ l)) ≡ row_from t (fields_of l))
        → (l : List ℕ) → table_of (p ++ (b ∷ []) ++ l) ≡ line_from t l
    goes_on t begun h l = ap table_of (append_snoc p b l) ∙ says_row l ∙ h l ∙ sym (line_begun t l begun)

    taken_comma : b ≡ 44 → Entered s → Taken s ts (p ++ (b ∷ [])) (entered s)
    taken_comma c (spoils e h) =
        subst⁻¹ (λ (t : State). Taken s ts (p ++ (b ∷ [])) t) e
        (taken_spoiled (λ l. rw (says_row l, c, fields_comma l) (h ts (fields_of l) end)))
    taken_comma c (stores e n) = subst⁻¹ (λ (t : State). Taken s ts (p ++ (b ∷ [])) t) e (record {
      count = refl;
      begun = refl;
      plain = plain;
      knows = exactly fit same (omega (arith, end, length-append s.row (s.reader.value ∷ [])))
          (goes_on (with_entry s) refl (λ l. rw c (row_comma s l n)));
    })

    taken_digit : Digit s b → Taken s ts (p ++ (b ∷ [])) (with s (digit s.reader b))
    taken_digit (refused e h) = subst⁻¹ (λ (r : Reader). Taken s ts (p ++ (b ∷ [])) (with s r)) e (taken_unfit h)
    taken_digit (takes e h) = subst⁻¹ (λ (t : State). Taken s ts (p ++ (b ∷ [])) t) e
        (record { count = refl; begun = refl; plain = plain; knows = exactly fit same end (goes_on (taken s b) refl h) })

    taken_fit : Taken s ts (p ++ (b ∷ [])) (in_line s b)
    taken_fit = go (eqb b 44) (is_digit b) refl refl
      where
        go : (x y : Bool) → eqb b 44 ≡ x → is_digit b ≡ y → Taken s ts (p ++ (b ∷ [])) (in_line s b)
        go true y e f =
            let c : b ≡ 44 = eqb-true b 44 e in
            subst⁻¹ (λ (t : State). Taken s ts (p ++ (b ∷ [])) t) (line_comma s b fit c) (taken_comma c (field_ends s))
        go false true e f =
            let n : b ≡ 44 → ⊥ = eqb-false b 44 e in
            subst⁻¹ (λ (t : State). Taken s ts (p ++ (b ∷ [])) t) (line_digit s b fit n f) (taken_digit (a_digit s b n f))
        go false false e f =
            let n : b ≡ 44 → ⊥ = eqb-false b 44 e in
            subst⁻¹ (λ (t : State). Taken s ts (p ++ (b ∷ [])) t) (line_other s b fit n f) (taken_unfit (λ l. row_other s b l n f))

  taken_byte : s.reader.cr ≡ false → Knows s ts p → Taken s ts (p ++ (b ∷ [])) (in_line s b)
  taken_byte plain (exactly fit same end says) = taken_fit fit same end says plain
  taken_byte plain (over e h) = subst⁻¹ (λ (t : State). Taken s ts (p ++ (b ∷ [])) t) (line_spoilt s b e) (taken_spoiled (λ l. h (b ∷ l)))

  -- bytes were read of the line
  some_read : not (eqb (length (p ++ (b ∷ []))) 0) ≡ true
  some_read = rw (ne_eqb (length (p ++ (b ∷ []))) 0 (λ e. omega (arith, length-append p (b ∷ []))))

  follows_taken : (t : State) → Follows s ts p → Taken s ts (p ++ (b ∷ [])) t → Follows t ts (p ++ (b ∷ []))
  follows_taken t h a = record { count = a.count ∙ h.count; few = h.few; begun = a.begun ∙ sym some_read; knows = a.knows }

  pub follows_byte : s.reader.cr ≡ false → Follows s ts p → Follows (in_line s b) ts (p ++ (b ∷ []))
  follows_byte plain h = follows_taken (in_line s b) h (taken_byte plain h.knows)

  pub byte_plain : s.reader.cr ≡ false → Follows s ts p → (in_line s b).reader.cr ≡ false
  byte_plain plain h = (taken_byte plain h.knows).plain

-- ---- a CR

-- it is held back
pub follows_cr : (s : State) (ts : List (List ℕ)) (p : List ℕ) → Follows s ts p → Follows (with s (with_cr s.reader)) ts p
follows_cr s ts p h = record { count = h.count; few = h.few; begun = h.begun; knows = knows_cr h.knows }
  where
    knows_cr : Knows s ts p → Knows (with s (with_cr s.reader)) ts p
    knows_cr (exactly fit same end says) = exactly fit same end (λ l. says l ∙ line_cr s l)
    knows_cr (over e h) = over e h

-- it is a lone one, and no line with it is a list of numbers
pub follows_lone : (s : State) (ts : List (List ℕ)) (p : List ℕ) → Follows s ts p → Follows (spoiled s) ts (p ++ (13 ∷ []))
follows_lone s ts p h = follows_taken s ts p 13 (spoiled s) h (lone h.knows)
  where
    lone : Knows s ts p → Taken s ts (p ++ (13 ∷ [])) (spoiled s)
    lone (exactly fit same end says) =
        taken_spoiled s ts p 13 (λ l. heavy ts (table_of (p ++ (13 ∷ l))) (says (13 ∷ l) ∙ line_cons s 13 l ∙ row_other s 13 l (λ e. omega arith) refl))
    lone (over e h) = taken_spoiled s ts p 13 (λ l. h (13 ∷ l))
