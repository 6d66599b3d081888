-- A whole input. Assumes nothing.
use Prim.Native.Nat.{ℕ}
use mathlib.Core.Path.{◌≡◌, sym, ◌∙◌, ap}
use mathlib.Core.List.{List, [], ◌∷◌, ◌++◌}
use Rattle.csv_text.specs.Reading.{ended, fed, records, ReadsAll}
use Rattle.csv_text.specs.declared.reader.Reader.{Reader}
use Rattle.csv_text.proofs.Meaning.{meaning}
use Rattle.csv_text.proofs.Start.{from_start}
use Rattle.csv_text.proofs.Feeding.{says, says_end}

records_meaning : (input : List ℕ) (s : Reader) → records input s ≡ meaning s input
unfolding records
records_meaning [] s = sym (says_end s)
records_meaning (b ∷ rest) s = ap (λ l. ended (fed s b).1 ++ l) (records_meaning rest (fed s b).0) ∙ sym (says s b rest)

pub reads_all : ReadsAll
reads_all input = records_meaning input _ ∙ from_start input
