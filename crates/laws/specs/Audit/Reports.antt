-- A report over a list of heaps, from an empty one on: what it has taken and added up, and that no total comes near its end.
-- Assumes nothing.
use Rattle.std.specs.Prelude.{ℕ, zero, suc, ◌+◌, ◌-◌, ◌≤◌, ◌<◌, Bool, true, false, cond, List, [], ◌∷◌, map, ◌≡◌, refl, eqb, ltb, ℤ, pos, negsuc, length, take}
use Rattle.std.proofs.Common.{arith, add-zero, zero-add, sym, ap, ◌∙◌, take_all, length-take-le, ltb-true, ltb-false, lt-ltb, le-ltb, le-leb, SFits}
use Rattle.std.specs.Int.{w64}
use Rattle.rules.specs.declared.audit.Row.{Row}
use Rattle.rules.specs.declared.audit.Report.{Report}
use Rattle.rules.specs.declared.audit.Audited.{Audited}
use Rattle.rules.specs.Heap.{cells, count_of}
use Rattle.rules.specs.Check.{fits}
use Rattle.rules.specs.Audit.{plus, fitting_row, size_row, up, down, Lent, admitted, lent_row, empty}
use Rattle.rules.specs.Audit.{possible_for, possible, refusal_of, with, taking, refusing, audited, report_from, sum_of, Sixteen, Holds, AuditAddsUp}
use Rattle.laws.specs.Lists.Tests.{and_left, and_join}
use Rattle.laws.specs.Sound.Reflect.{fits_sized}
use Rattle.laws.specs.Audit.Rows.{plus_assoc, plus_none, none_plus}
use Rattle.laws.specs.Audit.Possible.{Possible, possible_sizes, possible_plus, possible_test}
use Rattle.laws.specs.Audit.Heaps.{fitting_size, heap_possible}

-- ---- whether a report takes the next heap

pub many : (p : Report) → 1000 ≤ p.heaps → refusal_of p ≡ 14
unfolding refusal_of
many p m = rw (le-ltb p.heaps 1000 m) refl

pub impossible : (p : Report) → p.heaps < 1000 → possible p ≡ false → refusal_of p ≡ 12
unfolding refusal_of
impossible p m f = rw (lt-ltb p.heaps 1000 m, f) refl

pub takes : (p : Report) → p.heaps < 1000 → possible p ≡ true → refusal_of p ≡ 0
unfolding refusal_of
takes p m f = rw (lt-ltb p.heaps 1000 m, f) refl

-- ---- the answer

pub audited_taking : (p : Report) (l : Lent) → refusal_of p ≡ 0 → audited p l ≡ taking p l
unfolding audited
audited_taking p l e = ap (λ (n : ℕ). cond (eqb n 0) (taking p l) (refusing p)) e

pub audited_refusing : (p : Report) (l : Lent) → eqb (refusal_of p) 0 ≡ false → audited p l ≡ refusing p
unfolding audited
audited_refusing p l e = ap (λ (b : Bool). cond b (taking p l) (refusing p)) e

-- ---- what every report keeps that starts empty

-- `fitting` of its heaps are not SIZE
pub record Kept (p : Report) : Type 0 where
  pub most : p.heaps ≤ 1000
  pub fitting : ℕ
  pub parts : p.heaps ≡ fitting + p.totals.size
  pub columns : Possible fitting p.totals

pub kept_empty : Kept empty
kept_empty = record { most = omega arith; fitting = 0; parts = refl; columns = possible_sizes 0 }

pub kept_possible : (p : Report) → Kept p → possible p ≡ true
unfolding possible
kept_possible p k =
    let same : p.heaps - p.totals.size ≡ k.fitting = omega (arith, k.parts) in
    let few : p.totals.size ≤ p.heaps = omega (arith, k.parts) in
    and_join (le-leb _ _ few) (ap (λ (n : ℕ). possible_for n p.totals) same ∙ possible_test k.fitting p.totals k.columns)

-- the row of a heap, SIZE or not
record RowKept (r : Row) : Type 0 where
  pub fitting : ℕ
  pub parts : fitting + r.size ≡ 1
  pub columns : Possible fitting r

row_kept : (l : Lent) → ((c : ℕ) → count_of l.heap c < 65536) → RowKept (lent_row l)
row_kept l small = go (admitted l) refl
  where
    go : (t : Bool) → admitted l ≡ t → RowKept (cond t (fitting_row l.heap) size_row)
    go true e =
        let s = fits_sized l.heap (and_left (fits l.heap) (eqb l.room (cells l.heap)) e) in
        record { fitting = 1; parts = omega (arith, fitting_size l.heap); columns = heap_possible l.heap s small }
    go false e = record { fitting = 0; parts = refl; columns = possible_sizes 1 }

pub kept_with : (p : Report) → Kept p → p.heaps < 1000 → (l : Lent) → ((c : ℕ) → count_of l.heap c < 65536) → Kept (with p (lent_row l))
kept_with p k m l small =
    let r = row_kept l small in
    record {
      most = omega arith;
      fitting = k.fitting + r.fitting;
      parts = omega (arith, k.parts, r.parts);
      columns = possible_plus k.fitting r.fitting p.totals (lent_row l) k.columns r.columns;
    }

-- ---- after a list of heaps, from a report that has room for m

record From (p : Report) (m : ℕ) (ls : List Lent) : Type 0 where
  pub report : report_from p ls ≡ record { heaps = p.heaps + length (take m ls); totals = plus p.totals (sum_of (map lent_row (take m ls))) }
  pub kept : Kept (report_from p ls)

from : (ls : List Lent) → Sixteen ls → (p : Report) → Kept p → (m : ℕ) → p.heaps + m ≡ 1000 → From p m ls
unfolding report_from sum_of
from [] s p k zero e = record { report = λ i. record { heaps = sym (add-zero p.heaps) i; totals = sym (plus_none p.totals) i }; kept = k }
from [] s p k (suc m) e = record { report = λ i. record { heaps = sym (add-zero p.heaps) i; totals = sym (plus_none p.totals) i }; kept = k }
from (l ∷ ls) s p k zero e =
    let same : (audited p l).report ≡ p = ap (λ (a : Audited). a.report) (audited_refusing p l (ap (λ (n : ℕ). eqb n 0) (many p (omega arith)))) in
    let rest = from ls s.1 p k zero e in
    record { report = ap (λ (q : Report). report_from q ls) same ∙ rest.report; kept = rw same rest.kept }
from (l ∷ ls) s p k (suc m) e =
    let few : p.heaps < 1000 = omega arith in
    let same : (audited p l).report ≡ with p (lent_row l) = ap (λ (a : Audited). a.report) (audited_taking p l (takes p few (kept_possible p k))) in
    let rest = from ls s.1 (with p (lent_row l)) (kept_with p k few l s.0) m (omega arith) in
    let count : p.heaps + 1 + length (take m ls) ≡ p.heaps + suc (length (take m ls)) = omega arith in
    record {
      report = ap (λ (q : Report). report_from q ls) same ∙ rest.report
          ∙ (λ i. record { heaps = count i; totals = plus_assoc p.totals (lent_row l) (sum_of (map lent_row (take m ls))) i });
      kept = rw same rest.kept;
    }

-- ---- a list of heaps from an empty report

sum_holds : (x : ℤ) → up x < 9223372036854775808 → down x ≤ 9223372036854775808 → SFits w64 x
sum_holds (pos n) a b = record { sfits = omega arith }
sum_holds (negsuc n) a b = record { sfits = omega arith }

holds : (p : Report) → Kept p → Holds p.totals
holds p k =
    let c = k.columns in
    let few : k.fitting ≤ 1000 = omega (arith, k.most, k.parts) in
    record {
      below = record { fits = omega (arith, c.most) };
      at = record { fits = omega (arith, c.most) };
      above = record { fits = omega (arith, c.most) };
      sum = sum_holds p.totals.sum (omega (arith, c.sum.over, c.over_most, c.most)) (omega (arith, c.sum.missing, c.missing_most, c.most));
      lost = record { fits = omega (arith, c.missing_most, c.most) };
      size = record { fits = omega (arith, k.most, k.parts) };
    }

next : (ls : List Lent) → From empty 1000 ls → refusal_of (report_from empty ls) ≡ cond (ltb (length ls) 1000) 0 14
next ls f = go (ltb (length ls) 1000) refl
  where
    p : Report
    p = report_from empty ls

    seen : p.heaps ≡ length (take 1000 ls)
    seen = ap (λ (q : Report). q.heaps) f.report ∙ zero-add (length (take 1000 ls))

    go : (t : Bool) → ltb (length ls) 1000 ≡ t → refusal_of p ≡ cond t 0 14
    go true e =
        let few : length ls < 1000 = ltb-true _ _ e in
        let all : length (take 1000 ls) ≡ length ls = ap length (take_all 1000 ls (omega arith)) in
        takes p (omega (arith, seen)) (kept_possible p f.kept)
    go false e =
        let lots : 1000 ≤ length ls = ltb-false _ _ e in
        many p (omega (arith, seen, length-take-le 1000 ls lots))

pub audit_adds_up : AuditAddsUp
audit_adds_up ls s =
    let f = from ls s empty kept_empty 1000 refl in
    record {
      report = f.report
          ∙ (λ i. record { heaps = zero-add (length (take 1000 ls)) i; totals = none_plus (sum_of (map lent_row (take 1000 ls))) i });
      holds = holds (report_from empty ls) f.kept;
      next = next ls f;
    }
