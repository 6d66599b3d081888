-- What a byte, and the end of the input, do to the reader, the arrays and the report; and one stretch of bytes after another. Assumes nothing.
use Prim.Native.Nat.{ℕ, suc, ◌+◌, ◌≤◌, ◌<◌}
use native.Mathlib.Omega.{arith}
use mathlib.Core.List.{List, [], ◌∷◌, ◌++◌, map, append_assoc, append-nil}
use mathlib.Core.Path.{◌≡◌, refl, sym, ap, subst, ◌∙◌}
use lib.ListN.{length, get_or, take}
use lib.Seq.{take-suc}
use Rattle.std.specs.Prelude.{Option, Result, Ok, Err, IfOk}
use Rattle.std.specs.Io.KnownBytes.{Appends}
use Rattle.std.proofs.KnownBytes.{Appends-nil, Appends-trans}
use Rattle.rules.specs.declared.audit.Report.{Report}
use Rattle.rules.specs.Heap.{Heap}
use Rattle.rules.specs.Audit.{audited, report_from}
use Rattle.rules.specs.AuditReport.{lines_for, lines_from, totals_line}
use Rattle.report.specs.Pieces.{TotalsWritten}
use Rattle.dump.specs.declared.reader.Reader.{Reader}
use Rattle.dump.specs.Reading.{State, start_state, fed, closed, heap_given, out, within, after, given}
use Rattle.dump.specs.Holding.{Holds, Ready, Steps}
use Rattle.dump.proofs.Cutting.{given_more, given_heap, out_none, out_heap}
use Rattle.auditor.specs.declared.Progress.{Progress}
use Rattle.auditor.specs.declared.Room.{Room}
use Rattle.auditor.specs.Output.{whole}
use Rattle.auditor.specs.Taking.{In, Took, Advanced, Ended, Begun}
use Rattle.auditor.specs.Written.{HeapTold, TookWith, Told, LeftTold, LastTold, text_by}
use Rattle.auditor.proofs.Printing.{wrote_front}

-- two things of a value, if there is one
pub if_ok_both : {T E : Type 0} {P Q S : T → Type 0} (r : Result T E) → ((x : T) → P x → Q x → S x) → IfOk r P → IfOk r Q → IfOk r S
if_ok_both (Ok x) f p q = f x p q
if_ok_both (Err e) f p q = tt

-- another reader, with the same report
abbrev pub onward : Progress → Reader → Progress
onward p r = record { reader = r; report = p.report; many = p.many }

-- the same room, with other arrays for the reader
abbrev pub turned : Room → List ℕ → List ℕ → Room
turned a entries ends = record { entries = entries; ends = ends; differences = a.differences; out = a.out }

-- ---- a step of the reader

module _ {step : State → State} {r : Reader} {entries ends : List ℕ} {r' : Reader} {entries' ends' : List ℕ} (w : Steps step r entries ends r' entries' ends') where
  pub still_ready : length entries' ≡ length entries → length ends' ≡ length ends → Ready r entries ends → r'.tables < 7 → Ready r' entries' ends'
  still_ready e f h m = record { room = e ∙ h.room; marks = f ∙ h.marks; unfinished = m }

  unfinished : (s : State) → Holds s r entries ends → r'.tables < 7 → (step s).reader.tables ≡ 7 → ⊥
  unfinished s h m e = omega (arith, ap (λ (x : Reader). x.tables) (w.holds s h).reader)

  finished : (s : State) → Holds s r entries ends → 7 ≤ r'.tables → (step s).reader.tables ≡ 7
  finished s h m = omega (arith, w.count, ap (λ (x : Reader). x.tables) (w.holds s h).reader)

-- ---- a byte

-- it took the arrays of the room a to those of m
module _ (p : Progress) (b : ℕ) (a m : Room) {r' : Reader} (w : Steps (λ s. fed s b) p.reader a.entries a.ends r' m.entries m.ends) where
  -- the heap goes on
  pub byte_more : (q : Progress) (old : Option (List ℕ)) → q.reader ≡ r' → q.report ≡ p.report → Ready q.reader m.entries m.ends → Told p a (b ∷ []) q m old old
  unfolding report_from lines_from
  byte_more q old e f y =
      record {
        ready = y;
        text = [];
        written = Appends-nil old;
        took = λ s h.
            let few : r'.tables < 7 = omega (arith, y.unfinished, ap (λ (x : Reader). x.tables) e) in
            record {
              state = fed s b;
              holds = rw e (w.holds s h);
              took = record { heaps = []; read = λ rest. given_more s (fed s b) b rest refl (unfinished w s h few); report = f };
              lines = refl;
            };
      }

  -- a heap is complete, the report takes it, and its lines are written; what the arrays hold then is of no matter
  pub byte_heap : (n q : Progress) (c : Room) (old new : Option (List ℕ)) → n.reader ≡ r' → n.report ≡ p.report → 7 ≤ r'.tables
      → length c.entries ≡ 12354 → length c.ends ≡ 7 → Begun n m q → HeapTold n m old new → Told p a (b ∷ []) q c old new
  unfolding report_from lines_from
  byte_heap n q c old new e f full le ln g x =
      record {
        ready = record { room = le; marks = ln; unfinished = omega (arith, g.starts.none) };
        text = x.text;
        written = x.written;
        took = λ s h.
            let held : In (fed s b) n.reader m = rw e (w.holds s h) in
            let heap : Heap = heap_given (fed s b) in
            record {
              state = start_state;
              holds = g.starts.holds c.entries c.ends;
              took = record {
                heaps = heap ∷ [];
                read = λ rest. given_heap s (fed s b) b rest refl (finished w s h full);
                report = g.report (fed s b) held ∙ ap (λ (y : Report). (audited y (whole heap)).report) f;
              };
              lines =
                  x.lines (fed s b) held ∙ ap (λ (y : Report). lines_for y (whole heap)) f
                  ∙ sym (append-nil (lines_for p.report (whole heap)));
            };
      }

-- ---- the end of the input

given_nothing : (s : State) → given s [] ≡ out (closed s)
unfolding given within after
given_nothing s = refl

module _ (p : Progress) (a m : Room) {r' : Reader} (w : Steps closed p.reader a.entries a.ends r' m.entries m.ends) where
  pub end_none : (q : Progress) → q.report ≡ p.report → r'.tables < 7 → Ended p a q
  unfolding report_from
  end_none q f few = λ s h. f ∙ sym (ap (λ (hs : List Heap). report_from p.report (map whole hs)) (given_nothing s ∙ out_none (closed s) (unfinished w s h few)))

  pub end_heap : (n q : Progress) → n.reader ≡ r' → n.report ≡ p.report → 7 ≤ r'.tables → Begun n m q → Ended p a q
  unfolding report_from
  end_heap n q e f full g = λ s h.
      let held : In (closed s) n.reader m = rw e (w.holds s h) in
      g.report (closed s) held
      ∙ ap (λ (x : Report). (audited x (whole (heap_given (closed s)))).report) f
      ∙ sym (ap (λ (hs : List Heap). report_from p.report (map whole hs)) (given_nothing s ∙ out_heap (closed s) (finished w s h full)))

  -- and what is written
  pub left_none : (old : Option (List ℕ)) → r'.tables < 7 → LeftTold p a old old
  unfolding lines_from
  left_none old few = record {
    text = [];
    written = Appends-nil old;
    lines = λ s h. sym (ap (λ (hs : List Heap). lines_from p.report (map whole hs)) (given_nothing s ∙ out_none (closed s) (unfinished w s h few)));
  }

  pub left_heap : (n : Progress) (old new : Option (List ℕ)) → n.reader ≡ r' → n.report ≡ p.report → 7 ≤ r'.tables → HeapTold n m old new
      → LeftTold p a old new
  unfolding lines_from
  left_heap n old new e f full x = record {
    text = x.text;
    written = x.written;
    lines = λ s h.
        let held : In (closed s) n.reader m = rw e (w.holds s h) in
        let heap : Heap = heap_given (closed s) in
        x.lines (closed s) held ∙ ap (λ (y : Report). lines_for y (whole heap)) f
        ∙ sym (append-nil (lines_for p.report (whole heap)))
        ∙ sym (ap (λ (hs : List Heap). lines_from p.report (map whole hs)) (given_nothing s ∙ out_heap (closed s) (finished w s h full)));
  }

-- behind that the totals
pub last_told : (p q : Progress) (a : Room) (before after : List ℕ) (r : ℕ) (old mid new : Option (List ℕ)) → LeftTold p a old mid → Ended p a q
    → TotalsWritten q.report.totals before after r → 129 ≤ length before → length after ≡ length before → Appends mid new (take r after) → LastTold p a old new
last_told p q a before after r old mid new x y z room same w =
    let totals : take r after ≡ totals_line q.report.totals = wrote_front before (totals_line q.report.totals) after r (z.done room) z.fits same in
    record {
      text = x.text ++ totals_line q.report.totals;
      written = Appends-trans old mid new x.text (totals_line q.report.totals) x.written (subst (Appends mid new) totals w);
      all = λ s h. ap (λ (l : List ℕ). l ++ totals_line q.report.totals) (x.lines s h)
          ∙ ap (λ (o : Report). lines_from p.report (map whole (given s [])) ++ totals_line o.totals) (y s h);
    }

-- ---- one stretch of bytes after another

reports_append : (p : Report) (gs hs : List Heap) → report_from p (map whole (gs ++ hs)) ≡ report_from (report_from p (map whole gs)) (map whole hs)
unfolding report_from
reports_append p [] hs = refl
reports_append p (g ∷ gs) hs = reports_append (audited p (whole g)).report gs hs

pub took_more : (s t u : State) (p q v : Report) (a b : List ℕ) → Took s p a t q → Took t q b u v → Took s p (a ++ b) u v
took_more s t u p q v a b x y =
    record {
      heaps = x.heaps ++ y.heaps;
      read = λ rest.
          ap (given s) (append_assoc a b rest) ∙ x.read (b ++ rest) ∙ ap (λ (l : List Heap). x.heaps ++ l) (y.read rest)
          ∙ sym (append_assoc x.heaps y.heaps (given u rest));
      report = y.report ∙ ap (λ (z : Report). report_from z (map whole y.heaps)) x.report ∙ sym (reports_append p x.heaps y.heaps);
    }

lines_append : (p : Report) (gs hs : List Heap) → lines_from p (map whole (gs ++ hs)) ≡ lines_from p (map whole gs) ++ lines_from (report_from p (map whole gs)) (map whole hs)
unfolding lines_from report_from
lines_append p [] hs = refl
lines_append p (g ∷ gs) hs =
    let r : Report = (audited p (whole g)).report in
    ap (λ (l : List ℕ). lines_for p (whole g) ++ l) (lines_append r gs hs)
    ∙ sym (append_assoc (lines_for p (whole g)) (lines_from r (map whole gs)) (lines_from (report_from r (map whole gs)) (map whole hs)))

-- what is written for heaps and others behind them
pub text_append : (p : Report) (gs hs : List Heap) → text_by p (gs ++ hs) ≡ lines_from p (map whole gs) ++ text_by (report_from p (map whole gs)) hs
text_append p gs hs =
    let q : Report = report_from p (map whole gs) in
    ap (λ (l : List ℕ). l ++ totals_line (report_from p (map whole (gs ++ hs))).totals) (lines_append p gs hs)
    ∙ ap (λ (r : Report). (lines_from p (map whole gs) ++ lines_from q (map whole hs)) ++ totals_line r.totals) (reports_append p gs hs)
    ∙ append_assoc (lines_from p (map whole gs)) (lines_from q (map whole hs)) (totals_line (report_from q (map whole hs)).totals)

pub with_none : (s : State) (r : Report) (q : Progress) (a : Room) → q.report ≡ r → In s q.reader a → TookWith s r [] q a []
unfolding report_from lines_from
with_none s r q a e h = record { state = s; holds = h; took = record { heaps = []; read = λ rest. refl; report = e }; lines = refl }

pub with_more : (s : State) (p : Report) (a : List ℕ) (q : Progress) (m : Room) (x b : List ℕ) (t : Progress) (n : Room) (old new : Option (List ℕ))
    → TookWith s p a q m x → (y : Told q m b t n old new) → TookWith s p (a ++ b) t n (x ++ y.text)
unfolding took_more
with_more s p a q m x b t n old new one y =
    let two = y.took one.state one.holds in
    record {
      state = two.state;
      holds = two.holds;
      took = took_more s one.state two.state p q.report t.report a b one.took two.took;
      lines =
          (λ i. one.lines i ++ two.lines i)
          ∙ ap (λ (r : Report). lines_from p (map whole one.took.heaps) ++ lines_from r (map whole two.took.heaps)) one.took.report
          ∙ sym (lines_append p one.took.heaps two.took.heaps);
    }

pub told_none : (p : Progress) (l : Room) (old : Option (List ℕ)) → Ready p.reader l.entries l.ends → Told p l [] p l old old
told_none p l old y = record { ready = y; text = []; written = Appends-nil old; took = λ s h. with_none s p.report p l refl h }

pub told_more : (p q t : Progress) (l : Room) (a : List ℕ) (m : Room) (b : List ℕ) (n : Room) (old mid new : Option (List ℕ)) → Told p l a q m old mid → Told q m b t n mid new
    → Told p l (a ++ b) t n old new
told_more p q t l a m b n old mid new x y = record {
  ready = y.ready;
  text = x.text ++ y.text;
  written = Appends-trans old mid new x.text y.text x.written y.written;
  took = λ s h. with_more s p.report a q m x.text b t n mid new (x.took s h) y;
}

-- what was told says what was taken
pub told_advanced : (p q : Progress) (l : Room) (a : List ℕ) (m : Room) (old new : Option (List ℕ)) → Told p l a q m old new → Advanced p l a q m
told_advanced p q l a m old new x = record {
  ready = x.ready;
  took = λ s h. let t = x.took s h in record { state = t.state; holds = t.holds; took = t.took };
}

-- ---- the loop over bytes

one_byte_more : (bytes : List ℕ) (i : ℕ) → i < length bytes → take (i + 1) bytes ≡ take i bytes ++ (get_or bytes i 0 ∷ [])
one_byte_more bytes i h =
    let same : i + 1 ≡ suc i = omega arith in
    ap (λ (k : ℕ). take k bytes) same ∙ take-suc bytes i 0 h

-- the first i bytes are taken
pub told_byte : (p q t : Progress) (l : Room) (bytes : List ℕ) (i : ℕ) (m n : Room) (old mid new : Option (List ℕ)) → Told p l (take i bytes) q m old mid
    → i < length bytes → Told q m (get_or bytes i 0 ∷ []) t n mid new → Told p l (take (i + 1) bytes) t n old new
told_byte p q t l bytes i m n old mid new x h y =
    rw (one_byte_more bytes i h) (told_more p q t l (take i bytes) m (get_or bytes i 0 ∷ []) n old mid new x y)
