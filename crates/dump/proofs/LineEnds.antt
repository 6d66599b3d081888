-- The end of a line: its table is the next one of the heap, or the heap is too large. Assumes nothing.
use Prim.Native.Nat.{ℕ, ◌+◌, ◌<◌}
use native.Mathlib.Omega.{arith}
use mathlib.Core.Path.{◌≡◌, refl, sym, ◌∙◌, ap, subst⁻¹}
use mathlib.Core.List.{List, [], ◌∷◌, ◌++◌, append-nil}
use mathlib.Core.Bool.{Bool, true, false}
use lib.ListN.{length, length-append}
use Rattle.csv_text.specs.Lines.{fields_of}
use Rattle.dump.specs.Dumps.{table_of}
use Rattle.dump.specs.Reading.{State, start_state, spoiled, entered, last_field, next_line}
use Rattle.dump.specs.Holding.{size}
use Rattle.dump.proofs.Cases.{with_entry, last_spoilt, last_none, last_entered}
use Rattle.dump.proofs.Tables.{size_last}
use Rattle.dump.proofs.Meaning.{row_from, line_from, Knows, Follows}
use Rattle.dump.proofs.Meaning.Knows.{exactly, over}
use Rattle.dump.proofs.Rows.{line_begun, line_empty, Entered, spoils, stores, field_ends, row_last, fresh_line}

-- the line ends with the table x
pub data Closes (u : State) (ts : List (List ℕ)) (x : List ℕ) : Type 0 where
  exact : u.reader.spoilt ≡ false → u.finished ≡ ts → u.row ≡ x → u.reader.end ≡ size ts + length x → Closes u ts x
  large : u.reader.spoilt ≡ true → 12354 < size ts + length x → Closes u ts x

pub record LastField (s : State) (ts : List (List ℕ)) (x : List ℕ) : Type 0 where
  pub count : (last_field s).reader.tables ≡ s.reader.tables
  pub closes : Closes (last_field s) ts x

-- how the last field ends
module _ (s : State) (ts : List (List ℕ)) (p : List ℕ) where
  last_field_lem : (t : State) → last_field s ≡ t → t.reader.tables ≡ s.reader.tables → Closes t ts (table_of p) → LastField s ts (table_of p)
  last_field_lem t e l h =
      record { count = ap (λ (u : State). u.reader.tables) e ∙ l; closes = subst⁻¹ (λ (u : State). Closes u ts (table_of p)) e h }

  module _ (fit : s.reader.spoilt ≡ false) (same : s.finished ≡ ts) (end : s.reader.end ≡ size ts + length s.row)
      (says : table_of p ≡ line_from s []) where
    last_begun : last_field s ≡ entered s → table_of p ≡ row_from s ([] ∷ []) → Entered s → LastField s ts (table_of p)
    last_begun l r (spoils e h) = last_field_lem (spoiled s) (l ∙ e) refl (large refl (rw r (h ts [] end)))
    last_begun l r (stores e n) =
        let row : s.row ++ (s.reader.value ∷ []) ≡ table_of p = sym (r ∙ row_last s n) in
        last_field_lem (with_entry s) (l ∙ e) refl
        (exact fit same row (omega (arith, end, length-append s.row (s.reader.value ∷ []), ap length row)))

    last_fit : (x : Bool) → s.reader.begun ≡ x → LastField s ts (table_of p)
    unfolding fields_of
    last_fit true e = last_begun (last_entered s fit e) (says ∙ line_begun s [] e) (field_ends s)
    last_fit false e =
        let row : s.row ≡ table_of p = sym (says ∙ line_empty s e) in
        last_field_lem s (last_none s e) refl (exact fit same row (omega (arith, end, ap length row)))

  pub last_closes : Knows s ts p → LastField s ts (table_of p)
  last_closes (exactly fit same end says) = last_fit fit same end (rw (append-nil p) at (says [])) s.reader.begun refl
  last_closes (over e h) = last_field_lem s (last_spoilt s e) refl (large e (rw (append-nil p) at (h [])))

-- ---- the next line

pub follows_start : Follows start_state [] []
unfolding size
follows_start = record { count = refl; few = omega arith; begun = refl; knows = exactly refl refl refl (fresh_line 0 0 false []) }

-- a table more, and the heap lacks another
pub follows_next : (u : State) (ts : List (List ℕ)) (x : List ℕ) → u.reader.tables ≡ length ts → length ts < 6 → Closes u ts x
    → Follows (next_line u) (ts ++ (x ∷ [])) []
follows_next u ts x l h c = record {
  count = omega (arith, l, length-append ts (x ∷ []));
  few = omega (arith, length-append ts (x ∷ []));
  begun = refl;
  knows = knows_next c;
}
  where
    knows_next : Closes u ts x → Knows (next_line u) (ts ++ (x ∷ [])) []
    knows_next (exact fit same row end) =
        exactly fit (ap (λ (t : List (List ℕ)). t ++ (u.row ∷ [])) same ∙ ap (λ (r : List ℕ). ts ++ (r ∷ [])) row) (omega (arith, end, size_last ts x))
        (fresh_line (u.reader.tables + 1) u.reader.end u.reader.spoilt (u.finished ++ (u.row ∷ [])))
    knows_next (large e h) = over e (λ l. omega (arith, size_last ts x))
