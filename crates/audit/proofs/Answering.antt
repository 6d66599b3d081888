-- The ways out of the audit: the report refuses the heap, takes it as SIZE, or takes its row.
-- Assumes nothing.
use Prim.Native.Nat.{ℕ}
use native.Mathlib.Omega.{arith}
use mathlib.Core.Bool.{true, false}
use mathlib.Core.List.{List}
use mathlib.Core.Path.{◌≡◌, refl, sym, ap, ◌∙◌}
use lib.Dec.{eqb}
use lib.IntN.{ℤ}
use lib.ListN.{length}
use borrow.Author.Tests.{eqb-true, eq-eqb, ne_eqb}
use Rattle.rules.specs.Lists.{dangling}
use Rattle.rules.specs.Heap.{Heap, cells}
use Rattle.rules.specs.Check.{fits}
use Rattle.rules.specs.declared.audit.Row.{Row}
use Rattle.rules.specs.declared.audit.Report.{Report}
use Rattle.rules.specs.declared.audit.Audited.{Audited}
use Rattle.rules.specs.Audit.{references, difference, none, plus, lost_row, size_row, listed, row_to, differences, fitting_row, Lent, admitted, refusal_of, with, audited, differences_after}
use Rattle.laws.specs.Lists.Tests.{and_left, and_right}
use Rattle.laws.specs.Sound.Reflect.{fits_sized}
use Rattle.laws.specs.Audit.Reports.{audited_taking, audited_refusing}
use Rattle.audit.specs.Bounds.{Small}
use Rattle.audit.specs.Cells.{Lengths, CellsAudited}
use Rattle.audit.proofs.Columns.{answer_is}
use Rattle.audit.proofs.Reporting.{heap_small}

-- the heap, and how many entries the table of differences has
abbrev pub lent : Heap → List ℤ → Lent
lent h before = record { heap = h; room = length before }

module _ (p : Report) (h : Heap) (before : List ℤ) where
  -- ---- the report refuses the heap

  module _ (n : ℕ) (e : n ≡ refusal_of p) (some : n ≡ 0 → ⊥) where
    full : eqb (refusal_of p) 0 ≡ false
    full = ne_eqb _ _ (λ z. some (e ∙ z))

    pub refused_answer : {r : Audited} → r ≡ record { refused = n; heap = none; report = p } → r ≡ audited p (lent h before)
    refused_answer a = a ∙ answer_is e refl refl refl ∙ sym (audited_refusing p (lent h before) full)

    pub refused_table : before ≡ differences_after p h before
    unfolding differences_after
    refused_table = rw full refl

  -- ---- the report takes it

  module _ (zero : refusal_of p ≡ 0) where
    takes : eqb (refusal_of p) 0 ≡ true
    takes = eq-eqb _ _ zero

    module _ (a : admitted (lent h before) ≡ false) where
      pub size_answer : {r : Audited} {row : Row} (n : ℕ) → n ≡ 1 → row ≡ size_row → r ≡ record { refused = n; heap = row; report = with p row } → r ≡ audited p (lent h before)
      size_answer n one s q = rw (audited_taking p (lent h before) zero, a) (q ∙ (λ i. record { refused = one i; heap = s i; report = with p (s i) }))

      pub size_table : before ≡ differences_after p h before
      unfolding differences_after
      size_table = rw (takes, a) refl

    module _ (a : admitted (lent h before) ≡ true) where
      pub done_answer : {r : Audited} {row : Row} (n : ℕ) → n ≡ 0 → row ≡ fitting_row h → r ≡ record { refused = n; heap = row; report = with p row } → r ≡ audited p (lent h before)
      done_answer n none s q = rw (audited_taking p (lent h before) zero, a) (q ∙ (λ i. record { refused = none i; heap = s i; report = with p (s i) }))

      pub done_table : (after : List ℤ) → after ≡ differences h → after ≡ differences_after p h before
      unfolding differences_after
      done_table after s = rw (takes, a) s

-- ---- a heap whose tables fit

module _ (h : Heap) (before : List ℤ) (a : admitted (lent h before) ≡ true) where
  fit : fits h ≡ true
  fit = and_left (fits h) (eqb (length before) (cells h)) a

  same : length h.count ≡ cells h
  same = (fits_sized h fit).count

  pub lengths : Lengths before h
  lengths =
      let z = fits_sized h fit in
      let room = eqb-true (length before) (cells h) (and_right (fits h) (eqb (length before) (cells h)) a) in
      record {
        most = omega (arith, z.most, same);
        room = omega (arith, room, same);
        slots_size = omega (arith, z.slots, same);
        roots_size = z.roots;
        queue_size = omega (arith, z.queue, same);
      }

  module _ {after : List ℤ} {row : Row} (w : CellsAudited h after row) where
    pub row_fits : row ≡ fitting_row h
    row_fits = w.row ∙ ap (λ (k : ℕ). plus (row_to (difference h) k) (lost_row (dangling k (references h)))) same

    pub table_fits : after ≡ differences h
    table_fits = w.table ∙ ap (listed (difference h)) same

    pub row_small : Small row
    row_small = rw row_fits (heap_small h (fits_sized h fit) w.sixteen)
