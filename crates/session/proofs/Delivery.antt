-- Laws of deliveries: bytes taken, one delivery after another, the end. Assumes nothing.
use Prim.Native.Nat.{ℕ, suc, ◌+◌, ◌≤◌}
use native.Mathlib.Omega.{arith}
use mathlib.Core.Path.{◌≡◌, refl, sym, ◌∙◌, ap}
use mathlib.Core.List.{List, [], ◌∷◌, ◌++◌, append_assoc, append-nil}
use mathlib.Core.Bool.{Bool, true, false, cond}
use lib.Dec.{leb}
use lib.ListN.{length, take, drop, take-append-drop}
use lib.Seq.{take-append_seam}
use Rattle.std.specs.Prelude.{Option, Some, None}
use Rattle.csv_text.specs.Lines.{Record}
use Rattle.csv_text.specs.Reading.{Step, reader_start, fed, closed, ended as line_ended, records}
use Rattle.csv_text.specs.declared.reader.Reader.{Reader}
use Rattle.csv_text.proofs.Whole.{reads_all}
use Rattle.rules.specs.Heap.{Heap}
use Rattle.rules.specs.Asked.{obey_all}
use Rattle.session.specs.declared.taking.Progress.{Progress}
use Rattle.session.specs.Session.{line_for, session, after_all}
use Rattle.session.specs.Taking.{heap_after, text_for, State, begun, advance, takes, ends, Gave}
use Rattle.session.specs.Deliveries.{Took, Delivered, AnyDeliveries}
use Rattle.session.specs.Deliveries.Delivered.{handed, again, ended}
use Rattle.session.proofs.Session.{session_append, after-append}

-- ---- some input was taken

pub took_none : (s : Reader) (h : Heap) → Took s h [] s h
unfolding obey_all
took_none s h = record { lines = []; read = λ rest. refl; heap = refl }

pub took_more : (s r t : Reader) (p q : List ℕ) (h k m : Heap) → Took s h p r k → Took r k q t m → Took s h (p ++ q) t m
took_more s r t p q h k m a b = record {
  lines = a.lines ++ b.lines;
  read = λ rest.
      ap (λ (x : List ℕ). records x s) (append_assoc p q rest) ∙ a.read (q ++ rest) ∙ ap (λ x. a.lines ++ x) (b.read rest)
      ∙ sym (append_assoc a.lines b.lines (records rest t));
  heap = b.heap ∙ ap (λ (x : Heap). after_all x b.lines) a.heap ∙ sym (after-append h a.lines b.lines);
}

-- ---- the bytes of a delivery

-- x became y over the first n of the bytes: the lines that ended, and the answers to them
pub record Went (x : State) (bytes : List ℕ) (y : State) : Type 0 where
  pub n : ℕ
  pub count : y.taken ≡ x.taken + n
  pub most : n ≤ length bytes
  pub taken : Took x.reader x.heap (take n bytes) y.reader y.heap
  pub text : y.text ≡ x.text ++ session x.heap taken.lines

went_nowhere : (x : State) (bytes : List ℕ) → Went x bytes x
unfolding session took_none
went_nowhere x bytes = record {
  n = 0;
  count = omega arith;
  most = omega arith;
  taken = took_none x.reader x.heap;
  text = sym (append-nil x.text);
}

-- one byte, by the line that it ends, if it ends one
byte_heap : (h : Heap) (line : Option Record) → heap_after h line ≡ after_all h (line_ended line)
unfolding heap_after line_ended obey_all
byte_heap h None = refl
byte_heap h (Some l) = refl

byte_text : (h : Heap) (line : Option Record) → text_for h line ≡ session h (line_ended line)
unfolding text_for line_ended session
byte_text h None = refl
byte_text h (Some l) = sym (append-nil (line_for h l))

took_byte : (s : Reader) (h : Heap) (b : ℕ) → Took s h (b ∷ []) (fed s b).0 (heap_after h (fed s b).1)
unfolding records
took_byte s h b = record { lines = line_ended (fed s b).1; read = λ rest. refl; heap = byte_heap h (fed s b).1 }

went_byte : (x y : State) (b : ℕ) (rest : List ℕ) → Went (advance x (fed x.reader b)) rest y → Went x (b ∷ rest) y
unfolding advance took_byte took_more
went_byte x y b rest w =
    let step : Step = fed x.reader b in
    let h : Heap = x.heap in
    let lines : List Record = w.taken.lines in
    record {
      n = suc w.n;
      count = omega (arith, w.count);
      most = omega (arith, w.most);
      taken = took_more x.reader step.0 y.reader (b ∷ []) (take w.n rest) h (heap_after h step.1) y.heap (took_byte x.reader h b) w.taken;
      text =
          w.text ∙ append_assoc x.text (text_for h step.1) (session (heap_after h step.1) lines)
          ∙ ap (λ (t : List ℕ). x.text ++ (t ++ session (heap_after h step.1) lines)) (byte_text h step.1)
          ∙ ap (λ (k : Heap). x.text ++ (session h (line_ended step.1) ++ session k lines)) (byte_heap h step.1)
          ∙ ap (λ (t : List ℕ). x.text ++ t) (sym (session_append h (line_ended step.1) lines));
    }

pub went : (room : ℕ) (x : State) (bytes : List ℕ) → Went x bytes (takes room x bytes)
unfolding takes
went room x [] = went_nowhere x []
went room x (b ∷ rest) = go (leb (length x.text + 31) room) (went room (advance x (fed x.reader b)) rest)
  where
    go : (t : Bool) → Went (advance x (fed x.reader b)) rest (takes room (advance x (fed x.reader b)) rest)
        → Went x (b ∷ rest) (cond t (takes room (advance x (fed x.reader b)) rest) x)
    go true w = went_byte x (takes room (advance x (fed x.reader b)) rest) b rest w
    go false w = went_nowhere x (b ∷ rest)

-- ---- what a function gave

-- what it wrote
gave_text : {x : State} {before after : List ℕ} {k : Heap} {r : Progress} → Gave x before k after r → take r.written after ≡ x.text
gave_text {x} {before} g =
    rw (g.progress, g.out) (take-append_seam x.text (drop (length x.text) before))

-- ---- the whole input

-- what all deliveries gave, from any reader
record From (s : Reader) (h : Heap) (input w : List ℕ) (m : Heap) : Type 0 where
  written : w ≡ session h (records input s)
  heap : m ≡ after_all h (records input s)

-- some lines, then what is still to come
from_more : (s t : Reader) (h k m : Heap) (input rest text w : List ℕ) (lines : List Record) → records input s ≡ lines ++ records rest t
    → text ≡ session h lines → k ≡ after_all h lines → From t k rest w m → From s h input (text ++ w) m
from_more s t h k m input rest text w lines e x y f = record {
  written =
      ap (λ (z : List ℕ). z ++ w) x
      ∙ ap (λ (z : List ℕ). session h lines ++ z) (f.written ∙ ap (λ (z : Heap). session z (records rest t)) y)
      ∙ sym (session_append h lines (records rest t)) ∙ sym (ap (session h) e);
  heap =
      f.heap ∙ ap (λ (z : Heap). after_all z (records rest t)) y ∙ sym (after-append h lines (records rest t)) ∙ sym (ap (after_all h) e);
}

-- the end: the line that it answers, if it answers one
record EndWent (s : Reader) (h : Heap) (y : State) : Type 0 where
  lines : List Record
  read : records [] s ≡ lines ++ records [] y.reader
  heap : y.heap ≡ after_all h lines
  text : y.text ≡ session h lines

end_went : (room : ℕ) (h : Heap) (s : Reader) → EndWent s h (ends room h s (closed s))
unfolding ends records closed line_ended obey_all session
end_went room h s = go (closed s) (leb 31 room) refl refl
  where
    go : (last : Option Record) (t : Bool) → closed s ≡ last → leb 31 room ≡ t → EndWent s h (ends room h s last)
    go None t e f = record { lines = []; read = ap line_ended e; heap = refl; text = refl }
    go (Some l) true e f =
        rw f (record { lines = l ∷ []; read = ap line_ended e; heap = refl; text = sym (append-nil (line_for h l)) })
    go (Some l) false e f = rw f (record { lines = []; read = refl; heap = refl; text = refl })

delivered_from : {s : Reader} {h m : Heap} {input w : List ℕ} → Delivered s h input w m → From s h input w m
unfolding records closed line_ended session obey_all
delivered_from (handed {s} {h} {k} {m} bytes later before after r {w} g d) =
    let y : State = takes (length before) (begun h s) bytes in
    let v : Went (begun h s) bytes y = went (length before) (begun h s) bytes in
    let n : r.taken ≡ v.n = ap (λ (z : Progress). z.taken) g.progress ∙ v.count ∙ omega arith in
    let rest : List ℕ = drop r.taken bytes ++ later in
    let whole : bytes ++ later ≡ take r.taken bytes ++ rest =
    ap (λ (z : List ℕ). z ++ later) (sym (take-append-drop r.taken bytes)) ∙ append_assoc (take r.taken bytes) (drop r.taken bytes) later in
    let read : records (bytes ++ later) s ≡ v.taken.lines ++ records rest r.reader =
    ap (λ (z : List ℕ). records z s) (whole ∙ ap (λ (i : ℕ). take i bytes ++ rest) n) ∙ v.taken.read rest
    ∙ ap (λ (z : Progress). v.taken.lines ++ records rest z.reader) (sym g.progress) in
    from_more s r.reader h k m (bytes ++ later) rest (take r.written after) w v.taken.lines read
    (gave_text g ∙ v.text) (g.heap ∙ v.taken.heap) (delivered_from d)
delivered_from (again {s} {h} {k} {m} before after r {w} g d) =
    let v : EndWent s h (ends (length before) h s (closed s)) = end_went (length before) h s in
    from_more s r.reader h k m [] [] (take r.written after) w v.lines
    (v.read ∙ ap (λ (z : Progress). v.lines ++ records [] z.reader) (sym g.progress))
    (gave_text g ∙ v.text) (g.heap ∙ v.heap) (delivered_from d)
delivered_from (ended {s} {h} {k} before after r g e) =
    let v : EndWent s h (ends (length before) h s (closed s)) = end_went (length before) h s in
    let nothing : records [] r.reader ≡ [] = ap (records []) e in
    let read : records [] s ≡ v.lines =
    v.read ∙ ap (λ (z : Progress). v.lines ++ records [] z.reader) (sym g.progress)
    ∙ ap (λ (z : List Record). v.lines ++ z) nothing ∙ append-nil v.lines in
    record {
      written = gave_text g ∙ v.text ∙ ap (session h) (sym read);
      heap = g.heap ∙ v.heap ∙ ap (after_all h) (sym read);
    }

pub any_deliveries : AnyDeliveries
any_deliveries h m input w d =
    let f : From reader_start h input w m = delivered_from d in
    record {
      written = f.written ∙ ap (session h) (reads_all input);
      heap = f.heap ∙ ap (after_all h) (reads_all input);
    }
