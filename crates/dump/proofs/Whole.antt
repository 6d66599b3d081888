-- A whole input. Assumes nothing.
use Prim.Native.Nat.{ℕ}
use mathlib.Core.Path.{refl, sym}
use mathlib.Core.List.{List, [], ◌∷◌}
use Rattle.dump.specs.Dumps.{heaps_of}
use Rattle.dump.specs.Reading.{start_state}
use Rattle.dump.specs.Claims.{ReadsHeaps}
use Rattle.dump.proofs.LineEnds.{follows_start}
use Rattle.dump.proofs.Meant.{meant_none}
use Rattle.dump.proofs.Bytes.{Reads, at, reads_byte}
use Rattle.dump.proofs.Ending.{reads_end}

reads : (rest : List ℕ) → Reads rest
reads [] = reads_end
reads (b ∷ rest) = reads_byte b rest (reads rest)

pub reads_heaps : ReadsHeaps
unfolding heaps_of
reads_heaps input = at refl (sym (meant_none [] input)) (reads input start_state [] [] follows_start)
