-- The heaps that are meant, from some tables, the bytes of a line and the rest of the input on. Assumes nothing.
use Prim.Native.Nat.{ℕ}
use native.Mathlib.Omega.{arith}
use mathlib.Core.Path.{◌≡◌, refl, ◌∙◌}
use mathlib.Core.List.{List, [], ◌∷◌, ◌++◌, map, append-nil}
use mathlib.Core.Bool.{Bool, true, false, not, cond}
use lib.Dec.{eqb}
use lib.ListN.{length, length-append}
use lib.Seq.{append_snoc}
use borrow.Author.Tests.{eqb-true, eqb-false, eq-eqb, ne_eqb}
use Rattle.csv_text.specs.Lines.{onto_first, lines_of}
use Rattle.csv_text.proofs.Parts.{lines_cons}
use Rattle.rules.specs.Heap.{Heap}
use Rattle.dump.specs.Dumps.{table_of, heap_of, heaps_from}

-- bytes in front of the first line, or a line of their own where there is none
unfoldable pub onto : List ℕ → List (List ℕ) → List (List ℕ)
onto p [] = cond (eqb (length p) 0) [] (p ∷ [])
onto p (l ∷ ls) = (p ++ l) ∷ ls

onto_none : (ls : List (List ℕ)) → onto [] ls ≡ ls
unfolding onto
onto_none [] = refl
onto_none (l ∷ ls) = refl

pub onto_first_lem : (p : List ℕ) (b : ℕ) (ls : List (List ℕ)) → onto p (onto_first b ls) ≡ onto (p ++ (b ∷ [])) ls
unfolding onto onto_first
onto_first_lem p b [] = rw (ne_eqb (length (p ++ (b ∷ []))) 0 (λ e. omega (arith, length-append p (b ∷ []))))
onto_first_lem p b (l ∷ ls) = rw (append_snoc p b l)

-- the heaps of the tables ts, the bytes p of the next line, and the rest of the input
abbrev pub meant : List (List ℕ) → List ℕ → List ℕ → List Heap
meant ts p rest = heaps_from ts (map table_of (onto p (lines_of rest)))

-- the rest of the input with the CR that is held back
abbrev pub pending : Bool → List ℕ → List ℕ
pending cr rest = cond cr (13 ∷ rest) rest

-- ---- a line ends

-- the next table, and those of the other lines
pub heaps_next : (ts : List (List ℕ)) (t : List ℕ) (rest : List (List ℕ)) → (length ts ≡ 6 → ⊥) → heaps_from ts (t ∷ rest) ≡ heaps_from (ts ++ (t ∷ [])) rest
unfolding heaps_from
heaps_next ts t rest n = rw (ne_eqb (length ts) 6 n, heaps_from)

pub heaps_whole : (ts : List (List ℕ)) (t : List ℕ) (rest : List (List ℕ)) → length ts ≡ 6
    → heaps_from ts (t ∷ rest) ≡ heap_of (ts ++ (t ∷ [])) ∷ heaps_from [] rest
unfolding heaps_from
heaps_whole ts t rest e = rw (eq-eqb (length ts) 6 e, heaps_from)

-- the line that ends, and the others
pub meant_line : (ts : List (List ℕ)) (p rest : List ℕ) → meant ts p (13 ∷ (10 ∷ rest)) ≡ heaps_from ts (table_of p ∷ map table_of (lines_of rest))
unfolding onto
meant_line ts p rest = rw (lines_cons 13 10 rest, append-nil p)

pub meant_none : (ts : List (List ℕ)) (rest : List ℕ) → meant ts [] rest ≡ heaps_from ts (map table_of (lines_of rest))
meant_none ts rest = rw (onto_none (lines_of rest))

-- ---- the input ends

-- the tables of an input that ends with a line
pub heaps_left : (ts : List (List ℕ)) → (length ts ≡ 0 → ⊥) → heaps_from ts [] ≡ heap_of ts ∷ []
unfolding heaps_from
heaps_left ts n = rw (ne_eqb (length ts) 0 n)

pub heaps_last : (ts : List (List ℕ)) (t : List ℕ) → heaps_from ts (t ∷ []) ≡ heap_of (ts ++ (t ∷ [])) ∷ []
unfolding heaps_from
heaps_last ts t = go (eqb (length ts) 6) refl
  where
    go : (y : Bool) → eqb (length ts) 6 ≡ y → heaps_from ts (t ∷ []) ≡ heap_of (ts ++ (t ∷ [])) ∷ []
    go true e = heaps_whole ts t [] (eqb-true (length ts) 6 e)
    go false e = heaps_next ts t [] (eqb-false (length ts) 6 e) ∙ heaps_left (ts ++ (t ∷ [])) (λ z. omega (arith, length-append ts (t ∷ [])))

-- the bytes of an unfinished line are a line; no bytes are none
pub meant_last : (ts : List (List ℕ)) (p : List ℕ) (begun : Bool) → begun ≡ not (eqb (length p) 0)
    → meant ts p [] ≡ heaps_from ts (cond begun (table_of p ∷ []) [])
unfolding onto lines_of
meant_last ts p begun e = go (eqb (length p) 0) begun e
  where
    go : (x y : Bool) → y ≡ not x → heaps_from ts (map table_of (cond x [] (p ∷ []))) ≡ heaps_from ts (cond y (table_of p ∷ []) [])
    go true y e = rw e
    go false y e = rw e

pub meant_cr : (ts : List (List ℕ)) (p : List ℕ) → meant ts p (13 ∷ []) ≡ heaps_from ts (table_of (p ++ (13 ∷ [])) ∷ [])
unfolding onto lines_of
meant_cr ts p = refl
