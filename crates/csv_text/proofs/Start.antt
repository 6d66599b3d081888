-- From the start, the meaning of a reader is what the input says. Assumes nothing.
use Prim.Native.Nat.{ℕ, suc, ◌+◌}
use native.Mathlib.Omega.{arith}
use mathlib.Core.Path.{◌≡◌, refl}
use mathlib.Core.List.{List, [], ◌∷◌, map}
use mathlib.Core.Bool.{and_assoc}
use lib.ListN.{length}
use borrow.Author.Tests.{ne_eqb}
use Rattle.csv_text.specs.Lines.{all, lines_of, fields_of, record_of, record_of_fields, records_of}
use Rattle.csv_text.specs.Reading.{reader_start}
use Rattle.csv_text.proofs.Meaning.{record_from, closing, resumed, meaning}
use Rattle.csv_text.proofs.Numbers.{number_grows}

start_record : (fs : List (List ℕ)) → record_from reader_start fs ≡ record_of_fields fs
unfolding record_from record_of_fields all
start_record [] = refl
start_record (f ∷ []) = refl
start_record (f ∷ (g ∷ [])) = refl
start_record (f ∷ (g ∷ (h ∷ []))) = refl
start_record (f ∷ (g ∷ (h ∷ (k ∷ [])))) =
    let plain : 0 + length f ≡ length f = omega arith in
    simp (number_grows f, plain, and_assoc)
start_record (f ∷ (g ∷ (h ∷ (k ∷ (m ∷ fs))))) =
    rw (ne_eqb (0 + suc (suc (suc (suc (length fs))))) 3 (λ e. omega arith), ne_eqb (suc (suc (suc (suc (suc (length fs)))))) 4 (λ e. omega arith))

pub start_resumed : (ls : List (List ℕ)) → resumed reader_start ls ≡ map record_of ls
unfolding resumed closing record_of
start_resumed [] = refl
start_resumed (l ∷ ls) = rw (start_record (fields_of l))

pub from_start : (input : List ℕ) → meaning reader_start input ≡ records_of input
unfolding meaning records_of
from_start input = start_resumed (lines_of input)
