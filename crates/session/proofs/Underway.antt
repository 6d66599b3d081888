-- Laws of taking bytes and of the end, for the functions that do it. Assumes nothing.
use Prim.Native.Nat.{ℕ, ◌+◌, ◌*◌, ◌≤◌, ◌<◌}
use native.Mathlib.Omega.{arith}
use native.Mathlib.Numerals.{add-one}
use mathlib.Core.Path.{◌≡◌, refl, sym, ◌∙◌, ap, subst⁻¹}
use mathlib.Core.List.{List, [], ◌++◌}
use mathlib.Core.Bool.{false}
use lib.ListN.{length, get_or, drop, drop_of_length-le}
use lib.Seq.{sets-eq, drop-cons}
use borrow.Author.Tests.{le-leb, lt-leb}
use Rattle.std.specs.Prelude.{Option, Some, None, Ok, Err}
use Rattle.csv_text.specs.Lines.{Record}
use Rattle.csv_text.specs.Reading.{Step, reader_start, fed}
use Rattle.csv_text.specs.Written.{Wrote}
use Rattle.csv_text.specs.declared.reader.Reader.{Reader}
use Rattle.csv_text.proofs.Written.{wrote_nothing, wrote_more}
use Rattle.rules.specs.Heap.{Heap}
use Rattle.laws.specs.Calls.Admission.{admission}
use Rattle.laws.specs.Calls.Asked.{asks_fresh, never_fresh}
use Rattle.laws.specs.Demand.Step.{admission_kept}
use Rattle.session.specs.declared.taking.Progress.{Progress}
use Rattle.session.specs.Session.{asked_of, line_for, after_line}
use Rattle.session.specs.Taking.{heap_after, text_for, State, begun, advance, takes, ends, Gave, BytesTaken, ByteTaken}

-- ---- one byte

-- it ends no line
pub took_held : (s : Step) (taken : ℕ) (out : List ℕ) (at : ℕ) (h : Heap) (r : Progress) → s.1 ≡ None
    → r.reader ≡ s.0 → r.taken ≡ taken → r.written ≡ at → ByteTaken s taken out at h h out r
unfolding heap_after text_for
took_held s taken out at h r e p q w = record {
  heap = rw e;
  reader = p;
  count = q;
  wrote = rw e (subst⁻¹ (Wrote out at [] out) w (wrote_nothing out at));
  room = omega arith;
}

-- it ends a line, which is answered
pub took_line : (s : Step) (l : Record) (taken : ℕ) (out : List ℕ) (at : ℕ) (h k : Heap) (end : List ℕ) (r : Progress) → s.1 ≡ Some l
    → k ≡ after_line h l → r.reader ≡ s.0 → r.taken ≡ taken → Wrote out at (line_for h l) end r.written → r.written ≤ at + 31
    → ByteTaken s taken out at h k end r
unfolding heap_after text_for
took_line s l taken out at h k end r e g p q w m = record {
  heap = rw e g;
  reader = p;
  count = q;
  wrote = rw e w;
  room = m;
}

-- ---- whether the tables are admitted

lines_never_fresh : (l : Record) → asks_fresh (asked_of l) ≡ false
unfolding asked_of
lines_never_fresh (Ok n) = never_fresh n.0 n.1 n.2 n.3
lines_never_fresh (Err e) = unfold asks_fresh in refl

admission_after : (h : Heap) (ended : Option Record) → admission (heap_after h ended) ≡ admission h
unfolding heap_after
admission_after h None = refl
admission_after h (Some l) = admission_kept h (asked_of l) (lines_never_fresh l)

-- as before the byte
pub took_admission : {s : Step} {taken at why : ℕ} {before after : List ℕ} {h k : Heap} {r : Progress}
    → ByteTaken s taken before at h k after r → why ≡ admission h → why ≡ admission k
took_admission {s} {h = h} t e = e ∙ sym (admission_after h s.1) ∙ ap admission (sym t.heap)

-- ---- what was written, as the whole room shows it

gave : (x : State) (before : List ℕ) (k : Heap) (out : List ℕ) (r : Progress) → k ≡ x.heap → r.reader ≡ x.reader → r.taken ≡ x.taken
    → Wrote before 0 x.text out r.written → r.written ≤ length before → Gave x before k out r
gave x before k out r h p q w m =
    let text : List ℕ = x.text in
    let end : r.written ≡ length text = omega (arith, w.end) in
    let fits : 0 + length text ≤ length before = omega (arith, w.end) in
    let plain : 0 + length text ≡ length text = omega arith in
    record {
      heap = h;
      progress = λ i. record { reader = p i; taken = q i; written = end i };
      out = w.bytes ∙ sets-eq text before 0 fits ∙ ap (λ (n : ℕ). text ++ drop n before) plain;
    }

-- ---- byte after byte

-- by what was said and written
abbrev state : Heap → Progress → List ℕ → State
state k p text = record { heap = k; reader = p.reader; taken = p.taken; text = text }

-- Some of the bytes are taken: what the rest of them will give is what all of them give. No answer has more than 31 bytes.
pub record Underway (before : List ℕ) (h : Heap) (s : Reader) (bytes : List ℕ) (k : Heap) (out : List ℕ) (p : Progress) : Type 0 where
  pub text : List ℕ
  pub wrote : Wrote before 0 text out p.written
  pub room : p.written ≤ length before
  pub within : p.taken ≤ length bytes
  pub each : p.written ≤ 31 * p.taken
  pub goal : takes (length before) (begun h s) bytes ≡ takes (length before) (state k p text) (drop p.taken bytes)

pub underway_begin : (before : List ℕ) (h : Heap) (s : Reader) (bytes : List ℕ) → Underway before h s bytes h before (record { reader = s; taken = 0; written = 0 })
underway_begin before h s bytes = record {
  text = [];
  wrote = wrote_nothing before 0;
  room = omega arith;
  within = omega arith;
  each = omega arith;
  goal = refl;
}

takes_one : (room : ℕ) (x : State) (bytes : List ℕ) → x.taken < length bytes → length x.text + 31 ≤ room
    → takes room x (drop x.taken bytes) ≡ takes room (advance x (fed x.reader (get_or bytes x.taken 0))) (drop (x.taken + 1) bytes)
unfolding takes
takes_one room x bytes m l = rw (drop-cons bytes x.taken 0 m, le-leb (length x.text + 31) room l, add-one) refl

pub underway_byte : (before : List ℕ) (h : Heap) (s : Reader) (bytes : List ℕ) (k m : Heap) (out end : List ℕ) (p r : Progress)
    → Underway before h s bytes k out p → p.taken < length bytes → p.written + 31 ≤ length before
    → ByteTaken (fed p.reader (get_or bytes p.taken 0)) (p.taken + 1) out p.written k m end r
    → Underway before h s bytes m end r
unfolding advance
underway_byte before h s bytes k m out end p r u less room t =
    let step : Step = fed p.reader (get_or bytes p.taken 0) in
    let x : State = state k p u.text in
    let same : advance x step ≡ state m r (u.text ++ text_for k step.1) =
    λ i. record { heap = sym t.heap i; reader = sym t.reader i; taken = sym t.count i; text = u.text ++ text_for k step.1 } in
    record {
      text = u.text ++ text_for k step.1;
      wrote = wrote_more _ _ _ _ _ _ _ _ u.wrote t.wrote;
      room = omega (arith, t.room);
      within = omega (arith, t.count);
      each = omega (arith, t.count, t.room, u.each);
      goal =
          u.goal ∙ takes_one (length before) x bytes less (omega (arith, u.wrote.end))
          ∙ ap (λ (n : ℕ). takes (length before) (advance x step) (drop n bytes)) (sym t.count)
          ∙ ap (λ (y : State). takes (length before) y (drop r.taken bytes)) same;
    }

-- nothing more is taken
stopped : (before : List ℕ) (h : Heap) (s : Reader) (bytes : List ℕ) (k : Heap) (out : List ℕ) (p : Progress) (u : Underway before h s bytes k out p)
    → takes (length before) (state k p u.text) (drop p.taken bytes) ≡ state k p u.text
    → BytesTaken s h bytes before k out p
stopped before h s bytes k out p u e =
    subst⁻¹ (λ (y : State). Gave y before k out p) (u.goal ∙ e) (gave (state k p u.text) before k out p refl refl refl u.wrote u.room)

-- since no room is left for an answer
pub underway_full : (before : List ℕ) (h : Heap) (s : Reader) (bytes : List ℕ) (k : Heap) (out : List ℕ) (p : Progress)
    → Underway before h s bytes k out p → p.taken < length bytes → length before < p.written + 31
    → BytesTaken s h bytes before k out p
unfolding takes
underway_full before h s bytes k out p u less full = stopped before h s bytes k out p u
    (rw (drop-cons bytes p.taken 0 less, lt-leb (length u.text + 31) (length before) (omega (arith, u.wrote.end))) refl)

-- since all bytes are taken
pub underway_all : (before : List ℕ) (h : Heap) (s : Reader) (bytes : List ℕ) (k : Heap) (out : List ℕ) (p : Progress)
    → Underway before h s bytes k out p → length bytes ≤ p.taken
    → BytesTaken s h bytes before k out p
unfolding takes
underway_all before h s bytes k out p u all = stopped before h s bytes k out p u (rw (drop_of_length-le bytes {i = p.taken} all) refl)

-- ---- the end

pub ended_nothing : (last : Option Record) (h : Heap) (s : Reader) (out : List ℕ) (r : Progress) → last ≡ None → r.reader ≡ reader_start → r.taken ≡ 0 → r.written ≡ 0
    → Gave (ends (length out) h s last) out h out r
unfolding ends
ended_nothing last h s out r e p q w =
    subst⁻¹ (λ (x : Option Record). Gave (ends (length out) h s x) out h out r) e
    (gave (begun h reader_start) out h out r refl p q (subst⁻¹ (Wrote out 0 [] out) w (wrote_nothing out 0)) (omega arith))

pub ended_without_room : (last : Option Record) (l : Record) (h : Heap) (s : Reader) (out : List ℕ) (r : Progress) → last ≡ Some l → length out < 31
    → r.reader ≡ s → r.taken ≡ 0 → r.written ≡ 0 → Gave (ends (length out) h s last) out h out r
unfolding ends
ended_without_room last l h s out r e full p q w =
    rw (e, lt-leb 31 (length out) full) (gave (begun h s) out h out r refl p q (subst⁻¹ (Wrote out 0 [] out) w (wrote_nothing out 0)) (omega arith))

pub ended_line : (last : Option Record) (l : Record) (h k : Heap) (s : Reader) (out end : List ℕ) (r : Progress) → last ≡ Some l → 31 ≤ length out
    → k ≡ after_line h l → r.reader ≡ reader_start → r.taken ≡ 0 → Wrote out 0 (line_for h l) end r.written → r.written ≤ 31
    → Gave (ends (length out) h s last) out k end r
unfolding ends
ended_line last l h k s out end r e room g p q w m =
    rw (e, le-leb 31 (length out) room)
    (gave (record { heap = after_line h l; reader = reader_start; taken = 0; text = line_for h l }) out k end r g p q w (omega arith))
