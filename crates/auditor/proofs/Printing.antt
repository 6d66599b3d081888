-- The lines of a heap, by the answer of its audit, and what is written piece by piece. Assumes nothing.
use Rattle.std.proofs.Common.{◌≡◌, ℕ, ◌+◌, ◌≤◌, ◌<◌, Bool, true, false, ◌&&◌, cond, List, [], ◌++◌, length, take, drop, arith, refl, sym, ap, ◌∙◌, subst, append_assoc, append-nil}
use Rattle.std.specs.Prelude.{Option, ℤ, eqb, ltb}
use Rattle.std.specs.Io.KnownBytes.{Appends}
use Rattle.std.proofs.KnownBytes.{Appends-nil, Appends-trans}
use lib.Seq.{sets-eq, take-append_seam}
use borrow.Author.Tests.{lt-ltb, lt-leb}
use Rattle.csv_text.specs.Written.{Wrote}
use Rattle.rules.specs.declared.audit.Row.{Row}
use Rattle.rules.specs.declared.audit.Report.{Report}
use Rattle.rules.specs.declared.audit.Audited.{Audited}
use Rattle.rules.specs.Heap.{Heap, cells}
use Rattle.rules.specs.Check.{fits}
use Rattle.rules.specs.Audit.{differences, admitted, lent_row, refusal_of, possible, with, refusing, audited}
use Rattle.rules.specs.AuditReport.{heap_text, lines_for}
use Rattle.laws.specs.Lists.Tests.{and_left, and_right}
use Rattle.laws.specs.Sound.Reflect.{fits_sized}
use Rattle.report.specs.declared.piece.Piece.{Piece}
use Rattle.report.specs.Pieces.{text_from, PieceWritten}
use Rattle.dump.specs.Reading.{heap_given}
use Rattle.auditor.specs.declared.Progress.{Progress}
use Rattle.auditor.specs.declared.Room.{Room}
use Rattle.auditor.specs.Output.{whole}
use Rattle.auditor.specs.Taking.{CellsOf, HeapAudited}
use Rattle.auditor.specs.Written.{DifferencesOf, lines_of, HeapTold}
use Rattle.auditor.proofs.Auditing.{not_refused}
use Rattle.auditor.proofs.Pieces.{pieces_are_lines}

-- ---- what stands at the front of a buffer

pub wrote_front : (before text after : List ℕ) (r : ℕ) → Wrote before 0 text after r → r ≤ length after → length after ≡ length before → take r after ≡ text
wrote_front before text after r w fits same =
    let end : r ≡ length text = omega (arith, w.end) in
    let room : 0 + length text ≤ length before = omega (arith, w.end) in
    ap (take r) (w.bytes ∙ sets-eq text before 0 room) ∙ ap (λ (n : ℕ). take n (text ++ drop (0 + length text) before)) end
    ∙ take-append_seam text (drop (0 + length text) before)

-- ---- piece by piece

-- what was written of a heap's lines, and what is still to be written
pub record Printed (k : ℕ) (row : Row) (ds : List ℤ) (first : ℕ) (old new : Option (List ℕ)) : Type 0 where
  pub text : List ℕ
  pub written : Appends old new text
  pub rest : text_from k row ds 0 ≡ text ++ text_from k row ds first

pub printed_more : (k : ℕ) (row : Row) (ds : List ℤ) (first : ℕ) (before after : List ℕ) (r : Piece) (old mid new : Option (List ℕ)) → Printed k row ds first old mid
    → PieceWritten k row ds first before after r → length after ≡ length before → Appends mid new (take r.written after) → Printed k row ds r.next old new
printed_more k row ds first before after r old mid new x y same w = record {
  text = x.text ++ y.text;
  written = Appends-trans old mid new x.text y.text x.written (subst (Appends mid new) (wrote_front before y.text after r.written y.wrote y.fits same) w);
  rest = x.rest ∙ ap (λ (l : List ℕ). x.text ++ l) y.rest ∙ sym (append_assoc x.text y.text (text_from k row ds r.next));
}

-- nothing is left
pub printed_all : (k : ℕ) (row : Row) (ds : List ℤ) (first : ℕ) (old new : Option (List ℕ)) → Printed k row ds first old new → length ds < first
    → Appends old new (text_from k row ds 0)
unfolding text_from
printed_all k row ds first old new x beyond =
    subst (Appends old new) (sym (x.rest ∙ rw (lt-leb first (length ds) beyond) (append-nil x.text))) x.written

-- ---- by what the audit answered

-- a report that does not take a heap refuses it with more than SIZE
refused_beyond : (p : Report) → eqb (refusal_of p) 0 ≡ false → ltb 1 (refusal_of p) ≡ true
unfolding refusal_of
refused_beyond p e = go (ltb p.heaps 1000) (possible p) e
  where
    go : (t u : Bool) → eqb (cond t (cond u 0 12) 14) 0 ≡ false → ltb 1 (cond t (cond u 0 12) 14) ≡ true
    go true true e = cc
    go true false e = refl
    go false u e = refl

lines_at : (p : Report) (h : Heap) (d : List ℤ) → ((audited p (whole h)).refused ≡ 0 → d ≡ differences h) → lines_of (audited p (whole h)) d ≡ lines_for p (whole h)
unfolding audited lines_of lines_for
lines_at p h d same = go (eqb (refusal_of p) 0) (admitted (whole h)) refl refl same
  where
    answer : Bool → Bool → Audited
    answer t u = cond t (record { refused = cond u 0 1; heap = lent_row (whole h); report = with p (lent_row (whole h)) }) (refusing p)

    go : (t u : Bool) → eqb (refusal_of p) 0 ≡ t → admitted (whole h) ≡ u → ((answer t u).refused ≡ 0 → d ≡ differences h)
        → lines_of (answer t u) d ≡ cond t (heap_text (p.heaps + 1) (whole h)) []
    go true true e f s = ap (λ (l : List ℤ). text_from (p.heaps + 1) (lent_row (whole h)) l 0) (s refl) ∙ (pieces_are_lines (p.heaps + 1) h).done f
    go true false e f s = (pieces_are_lines (p.heaps + 1) h).size f
    go false u e f s = rw (refused_beyond p e) refl

pub lines_told : (p : Report) (h : Heap) (a : Audited) (d : List ℤ) → a ≡ audited p (whole h) → (a.refused ≡ 0 → d ≡ differences h) → lines_of a d ≡ lines_for p (whole h)
lines_told p h a d is same = ap (λ (x : Audited). lines_of x d) is ∙ lines_at p h d (λ z. same (ap (λ (x : Audited). x.refused) is ∙ z))

-- what the program prints by an answer
pub prints_none : (a : Audited) (d : List ℤ) (old : Option (List ℕ)) → 1 < a.refused → Appends old old (lines_of a d)
unfolding lines_of
prints_none a d old more = rw (lt-ltb 1 a.refused more) (Appends-nil old)

pub prints_own : (a : Audited) (d : List ℤ) → a.refused ≡ 1 → lines_of a d ≡ text_from a.report.heaps a.heap [] 0
unfolding lines_of
prints_own a d e = rw e refl

pub prints_all : (a : Audited) (d : List ℤ) → a.refused ≡ 0 → lines_of a d ≡ text_from a.report.heaps a.heap d 0
unfolding lines_of
prints_all a d e = rw e refl

-- ---- the heap that the arrays hold

pub heap_told : (p : Progress) (l : Room) (a : Audited) (n : ℕ) (d : List ℤ) (old new : Option (List ℕ)) → HeapAudited p.reader l.entries l.ends p.report a
    → DifferencesOf p.reader l.entries l.ends a d → CellsOf p.reader l.entries l.ends n → Appends old new (lines_of a (take n d)) → HeapTold p l old new
heap_told p l a n d old new is diffs cs w = record {
  text = lines_of a (take n d);
  written = w;
  lines = λ s h.
      let heap : Heap = heap_given s in
      lines_told p.report heap a (take n d) (is s h) (λ none.
      let taken : (eqb (refusal_of p.report) 0 && admitted (whole heap)) ≡ true =
      not_refused p.report (whole heap) (ap (λ (x : Audited). x.refused) (sym (is s h)) ∙ none) in
      let fit : fits heap ≡ true = and_left (fits heap) (eqb (cells heap) (cells heap)) (and_right (eqb (refusal_of p.report) 0) (admitted (whole heap)) taken) in
      ap (λ (k : ℕ). take k d) (cs.is s h (fits_sized heap fit).most) ∙ diffs s h none);
}
