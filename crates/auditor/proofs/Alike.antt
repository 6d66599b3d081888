-- Heaps that are alike have the same row and the same lines. Assumes nothing.
use Prim.Native.Nat.{ℕ, ◌+◌}
use mathlib.Core.Bool.{Bool, true, false, ◌&&◌, cond}
use mathlib.Core.List.{List, [], ◌++◌, map}
use mathlib.Core.Path.{◌≡◌, refl, sym, ap, ◌∙◌}
use lib.Dec.{eqb}
use Rattle.rules.specs.declared.audit.Row.{Row}
use Rattle.rules.specs.declared.audit.Report.{Report}
use Rattle.rules.specs.Heap.{Heap, cells}
use Rattle.rules.specs.Check.{fits}
use Rattle.rules.specs.Audit.{difference, fitting_row, size_row, Lent, admitted, lent_row, empty, refusal_of, with, taking, refusing, audited, report_from}
use Rattle.rules.specs.AuditReport.{header, cell_lines, heap_line, totals_line, heap_text, lines_for, lines_from}
use Rattle.dump.specs.Claims.{Alike, AllAlike}
use Rattle.dump.specs.Claims.AllAlike.{none, also}
use Rattle.auditor.specs.Output.{whole, output_for}

-- a heap that does not fit is SIZE, whatever it holds
not_admitted : (h : Heap) → fits h ≡ false → admitted (whole h) ≡ false
not_admitted h e = ap (λ (b : Bool). b && eqb (cells h) (cells h)) e

-- what is said of a heap by its row and its lines alone
record Says (g m : Heap) : Type 0 where
  row : lent_row (whole g) ≡ lent_row (whole m)
  done : admitted (whole g) ≡ admitted (whole m)
  text : (k : ℕ) → heap_text k (whole g) ≡ heap_text k (whole m)

says : (g m : Heap) → Alike g m → Says g m
unfolding heap_text
says g m a = go (fits m) refl
  where
    go : (t : Bool) → fits m ≡ t → Says g m
    go true e =
        let same = a.same e in
        record {
          row = ap (λ (h : Heap). lent_row (whole h)) same;
          done = ap (λ (h : Heap). admitted (whole h)) same;
          text = λ k. ap (λ (h : Heap). heap_text k (whole h)) same;
        }
    go false e =
        let g-not = not_admitted g (a.fit ∙ e) in
        let m-not = not_admitted m e in
        let row_is = ap (λ (b : Bool). cond b (fitting_row g) size_row) g-not ∙ sym (ap (λ (b : Bool). cond b (fitting_row m) size_row) m-not) in
        record {
          row = row_is;
          done = g-not ∙ sym m-not;
          text = λ k.
              (λ i. cond (g-not i) (cell_lines k (difference g) 0 (cells g)) [] ++ heap_line k (row_is i))
              ∙ sym (ap (λ (b : Bool). cond b (cell_lines k (difference m) 0 (cells m)) [] ++ heap_line k (lent_row (whole m))) m-not);
        }

same_lines : (p : Report) (g m : Heap) → Says g m → lines_for p (whole g) ≡ lines_for p (whole m)
unfolding lines_for
same_lines p g m s = ap (λ (t : List ℕ). cond (eqb (refusal_of p) 0) t []) (s.text (p.heaps + 1))

report_is : (p : Report) (l : Lent) → (audited p l).report ≡ cond (eqb (refusal_of p) 0) (with p (lent_row l)) p
unfolding audited
report_is p l = go (eqb (refusal_of p) 0)
  where
    go : (b : Bool) → (cond b (taking p l) (refusing p)).report ≡ cond b (with p (lent_row l)) p
    go true = refl
    go false = refl

same_report : (p : Report) (g m : Heap) → Says g m → (audited p (whole g)).report ≡ (audited p (whole m)).report
same_report p g m s =
    report_is p (whole g) ∙ ap (λ (r : Row). cond (eqb (refusal_of p) 0) (with p r) p) s.row ∙ sym (report_is p (whole m))

-- ---- lists of them

all_lines : {gs ms : List Heap} → AllAlike gs ms → (p : Report) → lines_from p (map whole gs) ≡ lines_from p (map whole ms)
unfolding lines_from
all_lines none p = refl
all_lines (also {g} {m} {gs} {ms} a rest) p =
    let s = says g m a in
    let later = all_lines rest (audited p (whole g)).report in
    (λ i. same_lines p g m s i ++ later i) ∙ ap (λ (q : Report). lines_for p (whole m) ++ lines_from q (map whole ms)) (same_report p g m s)

all_reports : {gs ms : List Heap} → AllAlike gs ms → (p : Report) → report_from p (map whole gs) ≡ report_from p (map whole ms)
unfolding report_from
all_reports none p = refl
all_reports (also {g} {m} {gs} {ms} a rest) p =
    let s = says g m a in
    all_reports rest (audited p (whole g)).report ∙ ap (λ (q : Report). report_from q (map whole ms)) (same_report p g m s)

pub same_output : {gs ms : List Heap} → AllAlike gs ms → output_for gs ≡ output_for ms
unfolding output_for
same_output a = λ i. header ++ (all_lines a empty i ++ totals_line (all_reports a empty i).totals)
