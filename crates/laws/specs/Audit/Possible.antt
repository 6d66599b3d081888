-- What holds of the rows of k heaps, added up, is kept when rows are added, and is what `possible_for` tests; so no column comes near its end.
-- Assumes nothing.
use Rattle.std.specs.Prelude.{ℕ, ◌+◌, ◌*◌, ◌≤◌, true, ◌≡◌, pos}
use Rattle.std.proofs.Common.{arith, le-leb}
use Rattle.rules.specs.declared.audit.Row.{Row}
use Rattle.rules.specs.Audit.{plus, up, down, row_cells, row_references, possible_for}
use Rattle.laws.specs.Lists.Tests.{pass_every}
use Rattle.laws.specs.Audit.Integers.{Less, less_plus}

-- `over` is what cells above zero have too much, `missing` what those below have too little
pub record Possible (k : ℕ) (r : Row) : Type 0 where
  pub over : ℕ
  pub missing : ℕ
  pub sum : Less r.sum over missing
  pub some : k ≤ row_cells r
  pub most : row_cells r ≤ 1024 * k
  pub over_some : r.above ≤ over
  pub over_most : over ≤ 65535 * r.above
  pub missing_some : r.below ≤ missing
  pub missing_most : missing + r.lost ≤ row_references k r
  pub missing_heaps : missing ≤ 9280 * r.below
  pub missing_others : missing + 9 * k ≤ 73 * r.below + 9 * row_cells r

-- heaps refused SIZE, n of them, are none of the k
pub possible_sizes : (n : ℕ) → Possible 0 (record { below = 0; at = 0; above = 0; sum = pos 0; lost = 0; size = n })
possible_sizes n =
    record {
      over = 0;
      missing = 0;
      sum = record { is = omega arith; over = omega arith; missing = omega arith };
      some = omega arith;
      most = omega arith;
      over_some = omega arith;
      over_most = omega arith;
      missing_some = omega arith;
      missing_most = omega arith;
      missing_heaps = omega arith;
      missing_others = omega arith;
    }

pub possible_plus : (k m : ℕ) (r s : Row) → Possible k r → Possible m s → Possible (k + m) (plus r s)
possible_plus k m r s p q =
    record {
      over = p.over + q.over;
      missing = p.missing + q.missing;
      sum = less_plus r.sum s.sum p.sum q.sum;
      some = omega (arith, p.some, q.some);
      most = omega (arith, p.most, q.most);
      over_some = omega (arith, p.over_some, q.over_some);
      over_most = omega (arith, p.over_most, q.over_most);
      missing_some = omega (arith, p.missing_some, q.missing_some);
      missing_most = omega (arith, p.missing_most, q.missing_most);
      missing_heaps = omega (arith, p.missing_heaps, q.missing_heaps);
      missing_others = omega (arith, p.missing_others, q.missing_others);
    }

-- ---- as a test

pub possible_test : (k : ℕ) (r : Row) → Possible k r → possible_for k r ≡ true
unfolding possible_for
possible_test k r p =
    let enough : r.lost + r.below ≤ row_references k r = omega (arith, p.missing_some, p.missing_most) in
    let high : up r.sum + r.below ≤ 65535 * r.above + down r.sum = omega (arith, p.sum.is, p.over_most, p.missing_some) in
    let low : r.above + down r.sum + r.lost ≤ up r.sum + row_references k r = omega (arith, p.sum.is, p.over_some, p.missing_most) in
    let heaps : r.above + down r.sum ≤ up r.sum + 9280 * r.below = omega (arith, p.sum.is, p.over_some, p.missing_heaps) in
    let others : r.above + down r.sum + 9 * k ≤ up r.sum + 73 * r.below + 9 * row_cells r = omega (arith, p.sum.is, p.over_some, p.missing_others) in
    pass_every _
    (le-leb _ _ p.some, (le-leb _ _ p.most, (le-leb _ _ enough, (le-leb _ _ high, (le-leb _ _ low, (le-leb _ _ heaps, (le-leb _ _ others, tt)))))))
