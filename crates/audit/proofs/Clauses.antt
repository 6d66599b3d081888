-- The tests of whether heaps lead to a report: what each says, and that all of them together are `possible_for`.
-- Assumes nothing.
use Prim.Native.Nat.{ℕ, ◌+◌, ◌*◌, ◌-◌, ◌≤◌, ◌<◌}
use mathlib.Core.Bool.{Bool, true, false, ◌&&◌}
use mathlib.Core.Path.{◌≡◌, refl, sym, ap, ◌∙◌}
use lib.Dec.{leb}
use borrow.Author.Tests.{leb-true, le-leb, lt-leb}
use Rattle.rules.specs.Lists as Lists
use Rattle.rules.specs.declared.audit.Row.{Row}
use Rattle.rules.specs.declared.audit.Report.{Report}
use Rattle.rules.specs.Audit.{up, down, row_cells, row_references, possible_for, possible}
use Rattle.laws.specs.Lists.Tests.{fails, every_pass, pass_every}
use Rattle.audit.specs.Clauses.{cells_fit, lost_fits, sum_fits}

-- ---- the cells

pub record Cells (k : ℕ) (r : Row) : Type 0 where
  pub least : k ≤ row_cells r
  pub most : row_cells r ≤ 1024 * k

pub cells_facts : (k : ℕ) (r : Row) → cells_fit k r ≡ true → Cells k r
unfolding cells_fit
cells_facts k r t = let p = every_pass _ t in record { least = leb-true _ _ p.0; most = leb-true _ _ p.1.0 }

pub cells_fit_lem : (k : ℕ) (r : Row) → Cells k r → true ≡ cells_fit k r
unfolding cells_fit
cells_fit_lem k r f = sym (pass_every _ (le-leb _ _ f.least, (le-leb _ _ f.most, tt)))

pub cells_not : (k : ℕ) (r : Row) → (Cells k r → ⊥) → false ≡ cells_fit k r
cells_not k r n = sym (fails (cells_fit k r) (λ t. n (cells_facts k r t)))

-- ---- the lost references

pub lost_facts : (refs : ℕ) (r : Row) → lost_fits refs r ≡ true → r.lost + r.below ≤ refs
unfolding lost_fits
lost_facts refs r t = leb-true _ _ t

pub lost_fit : (refs : ℕ) (r : Row) → r.lost + r.below ≤ refs → true ≡ lost_fits refs r
unfolding lost_fits
lost_fit refs r f = sym (le-leb _ _ f)

pub lost_not : (refs : ℕ) (r : Row) → refs < r.lost + r.below → false ≡ lost_fits refs r
unfolding lost_fits
lost_not refs r f = sym (lt-leb _ _ f)

-- ---- the sum

pub record Sum (k refs : ℕ) (r : Row) : Type 0 where
  pub over : up r.sum + r.below ≤ 65535 * r.above + down r.sum
  pub under : r.above + down r.sum + r.lost ≤ up r.sum + refs
  pub heaps : r.above + down r.sum ≤ up r.sum + 9280 * r.below
  pub left : r.above + down r.sum + 9 * k ≤ up r.sum + 73 * r.below + 9 * row_cells r

pub sum_facts : (k refs : ℕ) (r : Row) → sum_fits k refs r ≡ true → Sum k refs r
unfolding sum_fits
sum_facts k refs r t =
    let p = every_pass _ t in
    record { over = leb-true _ _ p.0; under = leb-true _ _ p.1.0; heaps = leb-true _ _ p.1.1.0; left = leb-true _ _ p.1.1.1.0 }

pub sum_fit : (k refs : ℕ) (r : Row) → Sum k refs r → true ≡ sum_fits k refs r
unfolding sum_fits
sum_fit k refs r f = sym (pass_every _ (le-leb _ _ f.over, (le-leb _ _ f.under, (le-leb _ _ f.heaps, (le-leb _ _ f.left, tt)))))

pub sum_not : (k refs : ℕ) (r : Row) → (Sum k refs r → ⊥) → false ≡ sum_fits k refs r
sum_not k refs r n = sym (fails (sum_fits k refs r) (λ t. n (sum_facts k refs r t)))

-- ---- all of them

pub in_parts : (k : ℕ) (r : Row) → possible_for k r ≡ (cells_fit k r && (lost_fits (row_references k r) r && sum_fits k (row_references k r) r))
unfolding possible_for cells_fit lost_fits sum_fits Lists.every
in_parts k r = go (leb k (row_cells r)) (leb (row_cells r) (1024 * k)) _
  where
    go : (a b x : Bool) → (a && (b && x)) ≡ ((a && (b && true)) && x)
    go true true x = refl
    go true false x = refl
    go false b x = refl

module _ (k : ℕ) (r : Row) where
  pub bad_cells : cells_fit k r ≡ false → false ≡ possible_for k r
  bad_cells e = sym (in_parts k r ∙ ap (λ (b : Bool). b && (lost_fits (row_references k r) r && sum_fits k (row_references k r) r)) e)

  pub bad_lost : cells_fit k r ≡ true → lost_fits (row_references k r) r ≡ false → false ≡ possible_for k r
  bad_lost c e = sym (in_parts k r ∙ rw (c, e) refl)

  pub by_sum : cells_fit k r ≡ true → lost_fits (row_references k r) r ≡ true → sum_fits k (row_references k r) r ≡ possible_for k r
  by_sum c e = sym (in_parts k r ∙ rw (c, e) refl)

-- heaps refused SIZE are among those taken
pub more_size : (p : Report) → p.heaps < p.totals.size → false ≡ possible p
unfolding possible
more_size p h = rw (lt-leb _ _ h) refl

pub no_more_size : (p : Report) → p.totals.size ≤ p.heaps → possible_for (p.heaps - p.totals.size) p.totals ≡ possible p
unfolding possible
no_more_size p h = rw (le-leb _ _ h) refl
