-- The pieces that a heap's lines are written in make up its lines. Assumes nothing.
use Prim.Native.Nat.{ℕ, zero, suc, ◌+◌, ◌-◌, ◌<◌}
use native.Mathlib.Omega.{arith}
use native.Mathlib.Decide.{ℕ_discrete}
use mathlib.Core.Bool.{Bool, cond}
use mathlib.Core.List.{List, [], ◌∷◌, ◌++◌}
use mathlib.Core.Logic.{by_cases}
use mathlib.Core.Path.{◌≡◌, refl, sym, ap, ◌∙◌}
use lib.IntN.{ℤ, pos}
use lib.ListN.{length, get_or, length-append, get_or-append}
use lib.Seq.{get_or_at}
use Rattle.rules.specs.Heap.{Heap, cells}
use Rattle.rules.specs.Audit.{difference, listed, differences, lent_row}
use Rattle.rules.specs.AuditReport.{cell_line, cell_lines, heap_line, heap_text}
use Rattle.report.specs.Room.{entry}
use Rattle.report.proofs.Pieces.{from_cell}
use Rattle.auditor.specs.Output.{whole, PiecesAreLines}

-- ---- the table of differences, entry by entry

pub length-listed : (d : ℕ → ℤ) (n : ℕ) → length (listed d n) ≡ n
unfolding listed
length-listed d zero = refl
length-listed d (suc n) = omega (arith, length-append (listed d n) (d n ∷ []), length-listed d n)

listed_at : (d : ℕ → ℤ) (n c : ℕ) → c < n → get_or (listed d n) c (pos 0) ≡ d c
unfolding listed
listed_at d zero c h = absurd (omega arith)
listed_at d (suc n) c h =
    by_cases (ℕ_discrete c n)
    (λ e. rw e (get_or_at (listed d n) (d n) [] (pos 0) n (length-listed d n)))
    (λ m. get_or-append (listed d n) (d n ∷ []) (pos 0) c (omega (arith, length-listed d n)) ∙ listed_at d n c (omega arith))

same_lines : (k : ℕ) (d e : ℕ → ℤ) (n : ℕ) → ((c : ℕ) → c < n → d c ≡ e c) → cell_lines k d 0 n ≡ cell_lines k e 0 n
unfolding cell_lines
same_lines k d e zero h = refl
same_lines k d e (suc n) h = λ i. same_lines k d e n (λ c m. h c (omega arith)) i ++ cell_line k (0 + n) (h (0 + n) (omega arith) i)

-- ---- a heap that fits, and one that is refused SIZE

pub pieces_are_lines : (k : ℕ) (h : Heap) → PiecesAreLines k h
unfolding heap_text cell_lines
pieces_are_lines k h =
    let d = difference h in
    let row = lent_row (whole h) in
    let long : length (differences h) - 0 ≡ cells h = omega (arith, length-listed d (cells h)) in
    let lines = ap (cell_lines k (entry (differences h)) 0) long ∙ same_lines k (entry (differences h)) d (cells h) (listed_at d (cells h)) in
    record {
      done = λ e. from_cell k row (differences h) 0 (omega arith) ∙ ap (λ (l : List ℕ). l ++ heap_line k row) lines
          ∙ sym (ap (λ (b : Bool). cond b (cell_lines k d 0 (cells h)) [] ++ heap_line k row) e);
      size = λ e. from_cell k row [] 0 (omega arith) ∙ sym (ap (λ (b : Bool). cond b (cell_lines k d 0 (cells h)) [] ++ heap_line k row) e);
    }
