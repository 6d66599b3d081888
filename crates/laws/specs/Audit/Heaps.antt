-- The row of a heap that fits is one that a heap can have: cell by cell, with each reference missing in one count at most.
-- Assumes nothing.
use Prim.Native.Nat.{ℕ, zero, suc, ◌+◌, ◌*◌, ◌≤◌, ◌<◌}
use native.Mathlib.Omega.{arith}
use Rattle.std.specs.Prelude.{List, ◌++◌, ◌≡◌, refl, ℤ, pos, negsuc, ◌-ℤ◌, length}
use Rattle.std.proofs.Common.{length-append}
use Rattle.rules.specs.declared.audit.Row.{Row}
use Rattle.rules.specs.Lists.{occ, dangling}
use Rattle.rules.specs.Heap.{Heap, cells, count_of}
use Rattle.rules.specs.Sound.{Sized}
use Rattle.rules.specs.Audit.{references, difference, cell_row, row_to, fitting_row, up, down, row_cells}
use Rattle.laws.specs.Lists.Occ.{occ-length}
use Rattle.laws.specs.Sound.Tally.{dangling-length}
use Rattle.laws.specs.Audit.Integers.{Less, less_difference, less_plus}
use Rattle.laws.specs.Audit.Counted.{dangling_next}
use Rattle.laws.specs.Audit.Possible.{Possible}

-- a cell that has `up x` too much and `down x` too little
pub record Cell (x : ℤ) (r : Row) : Type 0 where
  pub sum : Less r.sum (up x) (down x)
  pub one : row_cells r ≡ 1
  pub over_some : r.above ≤ up x
  pub over_most : up x ≤ 65535 * r.above
  pub missing_some : r.below ≤ down x
  pub missing_heaps : down x ≤ 9280 * r.below
  pub none_lost : r.lost ≡ 0

cell : (x : ℤ) → up x ≤ 65535 → down x ≤ 9280 → Cell x (cell_row x)
cell (pos zero) a b =
    record {
      sum = record { is = omega arith; over = omega arith; missing = omega arith };
      one = refl;
      over_some = omega arith;
      over_most = omega arith;
      missing_some = omega arith;
      missing_heaps = omega arith;
      none_lost = refl;
    }
cell (pos (suc n)) a b =
    record {
      sum = record { is = omega arith; over = omega arith; missing = omega arith };
      one = refl;
      over_some = omega arith;
      over_most = omega arith;
      missing_some = omega arith;
      missing_heaps = omega arith;
      none_lost = refl;
    }
cell (negsuc n) a b =
    record {
      sum = record { is = omega arith; over = omega arith; missing = omega arith };
      one = refl;
      over_some = omega arith;
      over_most = omega arith;
      missing_some = omega arith;
      missing_heaps = omega arith;
      none_lost = refl;
    }

-- the first n cells, where the references are l
pub record Cells (l : List ℕ) (n : ℕ) (r : Row) : Type 0 where
  pub over : ℕ
  pub missing : ℕ
  pub sum : Less r.sum over missing
  pub all : row_cells r ≡ n
  pub over_some : r.above ≤ over
  pub over_most : over ≤ 65535 * r.above
  pub missing_some : r.below ≤ missing
  pub missing_heaps : missing ≤ 9280 * r.below
  pub missing_most : missing + dangling n l ≤ dangling 0 l
  pub none_lost : r.lost ≡ 0

module _ (count : ℕ → ℕ) (l : List ℕ) (small : (c : ℕ) → count c < 65536) (short : length l ≤ 9280) where
  abbrev off : ℕ → ℤ
  off c = pos (count c) -ℤ pos (occ (suc c) l)

  one_cell : (c : ℕ) → Cell (off c) (cell_row (off c))
  one_cell c =
      let d = less_difference (count c) (occ (suc c) l) in
      cell (off c) (omega (arith, d.over, small c)) (omega (arith, d.missing, occ-length (suc c) l))

  pub cells_to : (n : ℕ) → Cells l n (row_to off n)
  unfolding row_to
  cells_to zero =
      record {
        over = 0;
        missing = 0;
        sum = record { is = omega arith; over = omega arith; missing = omega arith };
        all = refl;
        over_some = omega
            arith;
        over_most = omega arith;
        missing_some = omega arith;
        missing_heaps = omega arith;
        missing_most = omega arith;
        none_lost = refl;
      }
  cells_to (suc n) =
      let p = cells_to n in
      let q = one_cell n in
      let d = less_difference (count n) (occ (suc n) l) in
      record {
        over = p.over + up (off n);
        missing = p.missing + down (off n);
        sum = less_plus (row_to off n).sum (cell_row (off n)).sum p.sum q.sum;
        all = omega (arith, p.all, q.one);
        over_some = omega (arith, p.over_some, q.over_some);
        over_most = omega (arith, p.over_most, q.over_most);
        missing_some = omega (arith, p.missing_some, q.missing_some);
        missing_heaps = omega (arith, p.missing_heaps, q.missing_heaps);
        missing_most = omega (arith, p.missing_most, d.missing, dangling_next n l);
        none_lost = omega (arith, p.none_lost, q.none_lost);
      }

-- no cell is a heap refused SIZE
no_size : (d : ℕ → ℤ) (n : ℕ) → (row_to d n).size ≡ 0
unfolding row_to
no_size d zero = refl
no_size d (suc n) = omega (arith, no_size d n, of_cell (d n))
  where
    of_cell : (x : ℤ) → (cell_row x).size ≡ 0
    of_cell (pos zero) = refl
    of_cell (pos (suc m)) = refl
    of_cell (negsuc m) = refl

pub fitting_size : (h : Heap) → (fitting_row h).size ≡ 0
fitting_size h = omega (arith, no_size (difference h) (cells h))

references-length : (h : Heap) → Sized h → length (references h) ≡ 64 + 9 * cells h
references-length h s =
    omega (arith, length-append h.roots (h.slots ++ h.queue), length-append h.slots h.queue, s.roots, s.slots, s.queue)

pub heap_possible : (h : Heap) → Sized h → ((c : ℕ) → count_of h c < 65536) → Possible 1 (fitting_row h)
heap_possible h s small =
    let n = cells h in
    let l = references h in
    let length-is : length l ≡ 64 + 9 * n = references-length h s in
    let p = cells_to (count_of h) l small (omega (arith, s.most)) n in
    let r = row_to (difference h) n in
    let lost = dangling n l in
    let within : p.missing + lost ≤ 64 + 9 * n = omega (arith, p.missing_most, dangling-length 0 l) in
    record {
      over = p.over + 0;
      missing = p.missing + 0;
      sum = less_plus r.sum (pos 0) p.sum (record { is = omega arith; over = omega arith; missing = omega arith });
      some = omega (arith, p.all, s.least);
      most = omega (arith, p.all, s.most);
      over_some = omega (arith, p.over_some);
      over_most = omega (arith, p.over_most);
      missing_some = omega (arith, p.missing_some);
      missing_most = omega (arith, p.all, p.none_lost, within);
      missing_heaps = omega (arith, p.missing_heaps);
      missing_others = omega (arith, p.all, p.missing_heaps, within, s.least);
    }
