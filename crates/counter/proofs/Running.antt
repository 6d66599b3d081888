-- The program between two reads. Assumes nothing.
use Rattle.std.proofs.Common.{◌≡◌, ℕ, ◌+◌, ◌-◌, ◌^◌, ◌<◌, ◌≤◌, List, [], ◌++◌, length, IfSome, Some, None, arith, sym, ap, ◌∙◌, subst, length-append}
use Rattle.std.specs.Prelude.{Option}
use Rattle.std.specs.Io.KnownBytes.{Appends, Consumes}
use Rattle.std.proofs.KnownBytes.{Appends-trans, Consumes-nil, Consumes-trans}
use Rattle.csv_text.specs.Lines.{records_of}
use Rattle.csv_text.specs.Reading.{reader_start}
use Rattle.csv_text.specs.declared.reader.Reader.{Reader}
use Rattle.rules.specs.Heap.{Heap}
use Rattle.session.specs.Program.{at_start, header, output}
use Rattle.session.specs.Session.{session}
use Rattle.session.proofs.Delivery.{any_deliveries}
use Rattle.counter.specs.Written.{Told, EndTold, ServedTold}
use Rattle.counter.proofs.Written.{told_none, told_more}

-- n reads were made: reader and tables are what the input so far makes of a fresh heap, and its answers are written
pub record Running (n : ℕ) (t : Reader) (k : Heap) (from to old new : Option (List ℕ)) : Type 0 where
  pub input : List ℕ
  pub some : n ≤ length input
  pub read : Consumes from to input
  pub told : Told reader_start at_start input t k old new

-- before any input
pub running_begin : (from old : Option (List ℕ)) → Running 0 reader_start at_start from from old old
running_begin from old = record { input = []; some = omega arith; read = Consumes-nil from; told = told_none reader_start at_start old }

-- one read more
pub running_further : (n : ℕ) (s t : Reader) (h k : Heap) (r : Option Reader) (from mid to old said new : Option (List ℕ)) → Running n s h from mid old said
    → ServedTold s h k mid to said new r → r ≡ Some t → Running (n + 1) t k from to old new
running_further n s t h k r from mid to old said new a x e =
    let b = subst (λ (x : Option Reader). ServedTold s h k mid to said new x) e x in
    record {
      input = a.input ++ b.bytes;
      some = omega (arith, a.some, b.some, length-append a.input b.bytes);
      read = Consumes-trans from mid to a.input b.bytes a.read b.read;
      told = told_more reader_start s t at_start h k a.input b.bytes old said new a.told b.told;
    }

-- the input that is known has its answers
abbrev pub Answers : Option (List ℕ) → Option (List ℕ) → Option (List ℕ) → Type 0
Answers from old new = IfSome from (λ bytes. length bytes < 2 ^ 64 - 1 → Appends old new (session at_start (records_of bytes)))

-- where it has ended
running_end : (n : ℕ) (s : Reader) (h k : Heap) (from to old said new : Option (List ℕ)) → Running n s h from to old said → EndTold s h k to said new → Answers from old new
running_end n s h k None to old said new a b = tt
running_end n s h k (Some bytes) None old said new a b = absurd a.read
running_end n s h k (Some bytes) (Some rest) old said new a b = λ _.
    let text = a.told.text ++ b.told.text in
    let all : bytes ≡ a.input ++ [] = a.read ∙ ap (λ (l : List ℕ). a.input ++ l) b.read in
    let answers : text ≡ session at_start (records_of (a.input ++ [])) =
    (any_deliveries at_start k (a.input ++ []) text (a.told.further [] b.told.text k b.told.last)).written in
    subst (Appends old new) (answers ∙ ap (λ (l : List ℕ). session at_start (records_of l)) (sym all))
    (Appends-trans old said new a.told.text b.told.text a.told.written b.told.written)

pub running_over : (n : ℕ) (s : Reader) (h k : Heap) (r : Option Reader) (from mid to old said new : Option (List ℕ)) → Running n s h from mid old said
    → ServedTold s h k mid to said new r → r ≡ None → Answers from old new
running_over n s h k r from mid to old said new a x e =
    running_end n s h k from mid old said new a (subst (λ (x : Option Reader). ServedTold s h k mid to said new x) e x)

-- behind the header
pub with_header : (from old mid new : Option (List ℕ)) (text : List ℕ) → text ≡ header → Appends old mid text → Answers from mid new
    → IfSome from (λ bytes. length bytes < 2 ^ 64 - 1 → Appends old new (output bytes))
unfolding output
with_header None old mid new text e w a = tt
with_header (Some bytes) old mid new text e w a = λ few.
    subst (λ (l : List ℕ). Appends old new (l ++ session at_start (records_of bytes))) e
    (Appends-trans old mid new text (session at_start (records_of bytes)) w (a few))
