-- The program between two reads. Assumes nothing.
use Rattle.std.proofs.Common.{◌≡◌, ℕ, ◌+◌, ◌-◌, ◌^◌, ◌<◌, ◌≤◌, List, [], ◌++◌, length, map, IfSome, Some, None, arith, sym, ap, ◌∙◌, subst, length-append}
use Rattle.std.specs.Prelude.{Option}
use Rattle.std.specs.Io.KnownBytes.{Appends, Consumes}
use Rattle.std.proofs.KnownBytes.{Appends-nil, Appends-trans, Consumes-nil, Consumes-trans}
use Rattle.rules.specs.declared.audit.Report.{Report}
use Rattle.rules.specs.Heap.{Heap}
use Rattle.rules.specs.Audit.{empty, report_from}
use Rattle.rules.specs.AuditReport.{header, report_text}
use Rattle.dump.specs.Dumps.{heaps_of}
use Rattle.dump.specs.Reading.{start_state, given}
use Rattle.dump.specs.Holding.{Ready, Starts}
use Rattle.auditor.specs.declared.Progress.{Progress}
use Rattle.auditor.specs.declared.Room.{Room}
use Rattle.auditor.specs.Output.{whole, output_for}
use Rattle.auditor.specs.Written.{TookWith, EndTold, StepTold, text_by, text_for}
use Rattle.auditor.proofs.Going.{text_append, with_none, with_more}
use Rattle.auditor.proofs.Output.{writes_output}

-- n reads were made: reader, arrays and report are what the input so far makes of an empty report, and the lines of its heaps are written
pub record Running (n : ℕ) (p : Progress) (a : Room) (from to old new : Option (List ℕ)) : Type 0 where
  pub ready : Ready p.reader a.entries a.ends
  pub input : List ℕ
  pub some : n ≤ length input
  pub read : Consumes from to input
  pub text : List ℕ
  pub written : Appends old new text
  pub took : TookWith start_state empty input p a text

-- before any input
pub running_begin : (p : Progress) (a : Room) (from old : Option (List ℕ)) → Starts p.reader → p.report ≡ empty → length a.entries ≡ 12354 → length a.ends ≡ 7
    → Running 0 p a from from old old
running_begin p a from old s e le ln = record {
  ready = record { room = le; marks = ln; unfinished = omega (arith, s.none) };
  input = [];
  some = omega arith;
  read = Consumes-nil from;
  text = [];
  written = Appends-nil old;
  took = with_none start_state empty p a e (s.holds a.entries a.ends);
}

-- one read more
pub running_further : (n : ℕ) (p q : Progress) (l m : Room) (x : Option Progress) (from mid to old said new : Option (List ℕ)) → Running n p l from mid old said
    → StepTold p l x m mid to said new → x ≡ Some q → Running (n + 1) q m from to old new
running_further n p q l m x from mid to old said new a s is =
    let b = subst (λ (y : Option Progress). StepTold p l y m mid to said new) is s in
    record {
      ready = b.told.ready;
      input = a.input ++ b.bytes;
      some = omega (arith, a.some, b.some, length-append a.input b.bytes);
      read = Consumes-trans from mid to a.input b.bytes a.read b.read;
      text = a.text ++ b.told.text;
      written = Appends-trans old said new a.text b.told.text a.written b.told.written;
      took = with_more start_state empty a.input p l a.text b.bytes q m said new a.took b.told;
    }

-- what is written for an input that is known
abbrev pub Reports : Option (List ℕ) → Option (List ℕ) → Option (List ℕ) → Type 0
Reports from old new = IfSome from (λ bytes. length bytes < 2 ^ 64 - 1 → Appends old new (text_for (given start_state bytes)))

-- where it has ended
running_end : (n : ℕ) (p : Progress) (l : Room) (from to old said new : Option (List ℕ)) → Running n p l from to old said → EndTold p l to said new → Reports from old new
running_end n p l None to old said new a b = tt
running_end n p l (Some bytes) None old said new a b = absurd a.read
running_end n p l (Some bytes) (Some rest) old said new a b = λ _.
    let t = a.took in
    let heaps : List Heap = t.took.heaps in
    let left : List Heap = given t.state [] in
    let all : bytes ≡ a.input ++ [] = a.read ∙ ap (λ (l : List ℕ). a.input ++ l) b.read in
    let heaps_are : given start_state bytes ≡ heaps ++ left = ap (given start_state) all ∙ t.took.read [] in
    let last : b.told.text ≡ text_by (report_from empty (map whole heaps)) left =
    b.told.all t.state t.holds ∙ ap (λ (r : Report). text_by r left) t.took.report in
    let text : a.text ++ b.told.text ≡ text_for (given start_state bytes) =
    (λ i. t.lines i ++ last i) ∙ sym (text_append empty heaps left) ∙ ap text_for (sym heaps_are) in
    subst (Appends old new) text (Appends-trans old said new a.text b.told.text a.written b.told.written)

pub running_over : (n : ℕ) (p : Progress) (l m : Room) (x : Option Progress) (from mid to old said new : Option (List ℕ)) → Running n p l from mid old said
    → StepTold p l x m mid to said new → x ≡ None → Reports from old new
running_over n p l m x from mid to old said new a s is =
    running_end n p l from mid old said new a (subst (λ (y : Option Progress). StepTold p l y m mid to said new) is s)

-- behind the header
pub with_header : (from old mid new : Option (List ℕ)) (text : List ℕ) → text ≡ header → Appends old mid text → Reports from mid new
    → IfSome from (λ bytes. length bytes < 2 ^ 64 - 1 → Appends old new (report_text (map whole (heaps_of bytes))))
unfolding output_for
with_header None old mid new text e w a = tt
with_header (Some bytes) old mid new text e w a = λ few.
    subst (Appends old new) (ap (λ (l : List ℕ). l ++ text_for (given start_state bytes)) e ∙ writes_output bytes)
    (Appends-trans old mid new text (text_for (given start_state bytes)) w (a few))
