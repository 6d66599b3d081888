-- What is written heap by heap is the report's text. Assumes nothing.
use Rattle.std.specs.Prelude.{ℕ, zero, suc, ◌+◌, ◌<◌, Bool, false, cond, List, [], ◌∷◌, ◌++◌, ◌≡◌, refl, eqb, take}
use Rattle.std.proofs.Common.{arith, ap, ◌∙◌}
use Rattle.rules.specs.declared.audit.Report.{Report}
use Rattle.rules.specs.declared.audit.Audited.{Audited}
use Rattle.rules.specs.Audit.{Lent, lent_row, empty, refusal_of, with, audited, Sixteen}
use Rattle.rules.specs.AuditReport.{header, heap_text, heaps_text, totals_line, report_text, lines_for, lines_from, WritesReport}
use Rattle.laws.specs.Audit.Reports.{many, takes, audited_taking, audited_refusing, Kept, kept_empty, kept_possible, kept_with, audit_adds_up}

pub lines_taken : (p : Report) (l : Lent) → refusal_of p ≡ 0 → lines_for p l ≡ heap_text (p.heaps + 1) l
unfolding lines_for
lines_taken p l e = ap (λ (n : ℕ). cond (eqb n 0) (heap_text (p.heaps + 1) l) []) e

pub lines_refused : (p : Report) (l : Lent) → eqb (refusal_of p) 0 ≡ false → lines_for p l ≡ []
unfolding lines_for
lines_refused p l e = ap (λ (b : Bool). cond b (heap_text (p.heaps + 1) l) []) e

-- from a report that has room for m, the next of which has number k
from : (m : ℕ) (ls : List Lent) → Sixteen ls → (p : Report) → Kept p → p.heaps + m ≡ 1000 → (k : ℕ) → k ≡ p.heaps + 1 → lines_from p ls ≡ heaps_text k (take m ls)
unfolding lines_from heaps_text
from zero [] s p kept e k n = refl
from (suc m) [] s p kept e k n = refl
from zero (l ∷ ls) s p kept e k n =
    let full : eqb (refusal_of p) 0 ≡ false = ap (λ (x : ℕ). eqb x 0) (many p (omega arith)) in
    let same : (audited p l).report ≡ p = ap (λ (a : Audited). a.report) (audited_refusing p l full) in
    (λ i. lines_refused p l full i ++ lines_from (same i) ls) ∙ from zero ls s.1 p kept e k n
from (suc m) (l ∷ ls) s p kept e k n =
    let few : p.heaps < 1000 = omega arith in
    let open_is = takes p few (kept_possible p kept) in
    let same : (audited p l).report ≡ with p (lent_row l) = ap (λ (a : Audited). a.report) (audited_taking p l open_is) in
    let rest = from m ls s.1 (with p (lent_row l)) (kept_with p kept few l s.0) (omega arith) (suc k) (omega arith) in
    let number : p.heaps + 1 ≡ k = omega arith in
    (λ i. (lines_taken p l open_is ∙ ap (λ (x : ℕ). heap_text x l) number) i ++ (ap (λ (q : Report). lines_from q ls) same ∙ rest) i)

pub writes_report : WritesReport
unfolding report_text
writes_report ls s =
    let totals = ap (λ (p : Report). p.totals) (audit_adds_up ls s).report in
    (λ i. header ++ (from 1000 ls s empty kept_empty refl 1 refl i ++ totals_line (totals i)))
