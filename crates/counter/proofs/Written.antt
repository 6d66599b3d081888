-- What was written for what was read. Assumes nothing.
use Rattle.std.proofs.Common.{ℕ, ◌*◌, ◌≤◌, List, [], ◌++◌, length, take, arith, sym, ap, ◌∙◌, subst, append_assoc, drop_of_length-le}
use Rattle.std.specs.Prelude.{Option}
use Rattle.std.specs.Io.KnownBytes.{Appends}
use Rattle.std.proofs.KnownBytes.{Appends-nil, Appends-trans}
use Rattle.csv_text.specs.declared.reader.Reader.{Reader}
use Rattle.rules.specs.Heap.{Heap}
use Rattle.session.specs.declared.taking.Progress.{Progress}
use Rattle.session.specs.Taking.{BytesTaken, InputEnded}
use Rattle.session.specs.Deliveries.{Delivered}
use Rattle.session.specs.Deliveries.Delivered.{handed, ended}
use Rattle.session.proofs.GettingOn.{gets_on, all_taken}
use Rattle.session.proofs.Delivery.{took_none, took_more}
use Rattle.counter.specs.Written.{Told, ToldLast}

pub told : {s : Reader} {h k : Heap} {bytes before after : List ℕ} {r : Progress} {old new : Option (List ℕ)} → BytesTaken s h bytes before k after r
    → r.written ≤ 31 * r.taken → 31 * length bytes ≤ length before → Appends old new (take r.written after) → Told s h bytes r.reader k old new
told {s} {h} {k} {bytes} {before} {after} {r} g each room w =
    let all : length bytes ≤ r.taken = omega (arith, gets_on.takes_all s h k bytes before after r g each room) in
    record {
      took = all_taken g each room;
      text = take r.written after;
      further = λ rest v m d.
          handed bytes rest before after r g (subst (λ (l : List ℕ). Delivered r.reader k (l ++ rest) v m) (sym (drop_of_length-le bytes all)) d);
      written = w;
    }

pub told_last : {s : Reader} {h k : Heap} {before after : List ℕ} {r : Progress} {old new : Option (List ℕ)} → InputEnded s h before k after r
    → 31 ≤ length before → Appends old new (take r.written after) → ToldLast s h k old new
told_last {s} {h} {k} {before} {after} {r} g room w = record {
  text = take r.written after;
  last = ended before after r g (ap (λ (z : Progress). z.reader) g.progress ∙ gets_on.holds_nothing (length before) h s room);
  written = w;
}

-- ---- one stretch of bytes after another

pub told_none : (s : Reader) (h : Heap) (old : Option (List ℕ)) → Told s h [] s h old old
told_none s h old = record { took = took_none s h; text = []; further = λ rest w m d. d; written = Appends-nil old }

pub told_more : (s t u : Reader) (h k m : Heap) (a b : List ℕ) (old mid new : Option (List ℕ)) → Told s h a t k old mid → Told t k b u m mid new
    → Told s h (a ++ b) u m old new
told_more s t u h k m a b old mid new x y = record {
  took = took_more s t u a b h k m x.took y.took;
  text = x.text ++ y.text;
  further = λ rest w n d.
      subst (λ (l : List ℕ). Delivered s h l ((x.text ++ y.text) ++ w) n) (sym (append_assoc a b rest))
      (subst (λ (l : List ℕ). Delivered s h (a ++ (b ++ rest)) l n) (sym (append_assoc x.text y.text w))
      (x.further (b ++ rest) (y.text ++ w) n (y.further rest w n d)));
  written = Appends-trans old mid new x.text y.text x.written y.written;
}
