-- The table for the freed cells: references to a list of cells, behind entries that stood there before.
-- Assumes nothing.
use Prim.Native.Nat.{ℕ, zero, suc, ◌+◌, ◌-◌, ◌≤◌, ◌<◌}
use native.Mathlib.Omega.{arith}
use mathlib.Core.List.{List, [], ◌∷◌, ◌++◌, map, map-append, append_assoc}
use mathlib.Core.Path.{◌≡◌, refl, sym, ap, ◌∙◌}
use lib.ListN.{length, get_or, take, drop, length-append, length-map}
use lib.Seq.{length-take-le, take-append_seam, drop-append_seam, drop_at, take-take, slice, slice-cons}

-- cells are known by their references
cell_of : ℕ → ℕ
cell_of zero = 0
cell_of (suc c) = c

cells_of_lem : (cells : List ℕ) → map cell_of (map suc cells) ≡ cells
unfolding cell_of
cells_of_lem [] = refl
cells_of_lem (c ∷ cells) = ap (λ (l : List ℕ). c ∷ l) (cells_of_lem cells)

pub same_cells : (front a b : List ℕ) → front ++ map suc a ≡ front ++ map suc b → a ≡ b
same_cells front a b e =
    let references : map suc a ≡ map suc b =
    sym (drop-append_seam front (map suc a)) ∙ ap (drop (length front)) e ∙ drop-append_seam front (map suc b) in
    sym (cells_of_lem a) ∙ ap (map cell_of) references ∙ cells_of_lem b

-- further cells join the list
pub joins : (front a b : List ℕ) → (front ++ map suc a) ++ map suc b ≡ front ++ map suc (a ++ b)
joins front a b = append_assoc front (map suc a) (map suc b) ∙ ap (λ (l : List ℕ). front ++ l) (sym (map-append suc a b))

module _ (freed front cells : List ℕ) (tail : ℕ) (fits : tail ≤ length freed) (e : take tail freed ≡ front ++ map suc cells) where
  -- how far the list goes
  pub listed-length : tail ≡ length front + length cells
  listed-length = omega (arith, length-take-le tail freed fits, ap length e, length-append front (map suc cells), length-map cells suc)

  -- what stood before it stays
  pub front_stays : take (length front) freed ≡ front
  front_stays =
      sym (take-take (length front) tail freed (omega (arith, listed-length)))
      ∙ ap (take (length front)) e ∙ take-append_seam front (map suc cells)

-- r names the first of the cells
pub record Oldest (r : ℕ) (cells : List ℕ) : Type 0 where
  pub some : 1 ≤ r
  pub rest : List ℕ
  pub is : cells ≡ (r - 1) ∷ rest

-- the entry behind those that stood before names the oldest that waits
pub oldest : (freed front pending : List ℕ) (tail head : ℕ) → tail ≤ length freed → take tail freed ≡ front ++ map suc pending → head ≡ length front → head < tail
    → Oldest (get_or freed head 0) pending
oldest freed front [] tail head h e at more = absurd (omega (arith, listed-length freed front [] tail h e))
oldest freed front (c ∷ pending) tail head h e at more =
    let entries : suc c ∷ map suc pending ≡ get_or freed head 0 ∷ slice (suc head) tail freed =
    sym (drop_at front (map suc (c ∷ pending)) head (sym at)) ∙ ap (drop head) (sym e) ∙ slice-cons head tail freed 0 more h in
    let named : suc c ≡ get_or freed head 0 = ap (λ (l : List ℕ). get_or l 0 0) entries in
    let same : c ≡ get_or freed head 0 - 1 = omega arith in
    record { some = omega arith; rest = pending; is = ap (λ (x : ℕ). x ∷ pending) same }
