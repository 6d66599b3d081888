-- What was written for what was read, where reader and writer say which bytes they have left and hold. Of standard input and output they say nothing.
-- Assumes nothing: these are definitions.
use Rattle.std.specs.Prelude.{ℕ, ◌≤◌, ◌≡◌, List, [], ◌++◌, map, cond, eqb, ltb, ℤ, length, take, Option, Some, None}
use Rattle.std.specs.Io.KnownBytes.{Appends, Consumes, IsAtEnd}
use Rattle.rules.specs.declared.audit.Audited.{Audited}
use Rattle.rules.specs.declared.audit.Report.{Report}
use Rattle.rules.specs.Heap.{Heap, cells}
use Rattle.rules.specs.Audit.{differences, empty, report_from}
use Rattle.rules.specs.AuditReport.{lines_for, lines_from, totals_line}
use Rattle.report.specs.Pieces.{text_from}
use Rattle.dump.specs.declared.reader.Reader.{Reader}
use Rattle.dump.specs.Reading.{State, heap_given, given}
use Rattle.dump.specs.Holding.{Holds, Ready}
use Rattle.auditor.specs.declared.Progress.{Progress}
use Rattle.auditor.specs.declared.Room.{Room}
use Rattle.auditor.specs.Output.{whole}
use Rattle.auditor.specs.Taking.{In, Took}

-- ---- a heap

-- the differences of a heap that was audited, and not refused
abbrev pub DifferencesOf : Reader → List ℕ → List ℕ → Audited → List ℤ → Type 0
DifferencesOf r entries ends a d = (s : State) → Holds s r entries ends → a.refused ≡ 0 → take (cells (heap_given s)) d ≡ differences (heap_given s)

-- the lines of a heap by its audit's answer and these differences: one that is refused SIZE has only its own, and one that the report does not take has none
unfoldable pub lines_of : Audited → List ℤ → List ℕ
lines_of a d = cond (ltb 1 a.refused) [] (text_from a.report.heaps a.heap (cond (eqb a.refused 1) [] d) 0)

-- the lines of the heap that is complete were written
pub record HeapTold (p : Progress) (a : Room) (old new : Option (List ℕ)) : Type 0 where
  pub text : List ℕ
  pub written : Appends old new text
  pub lines : (s : State) → In s p.reader a → text ≡ lines_for p.report (whole (heap_given s))

-- ---- some bytes

-- they took the state s and the report p to others, and this text is the lines of the heaps that they completed
pub record TookWith (s : State) (p : Report) (bytes : List ℕ) (q : Progress) (a : Room) (text : List ℕ) : Type 0 where
  pub state : State
  pub holds : In state q.reader a
  pub took : Took s p bytes state q.report
  pub lines : text ≡ lines_from p (map whole took.heaps)

-- the lines of the heaps that these bytes completed were written
pub record Told (p : Progress) (a : Room) (bytes : List ℕ) (q : Progress) (b : Room) (old new : Option (List ℕ)) : Type 0 where
  pub ready : Ready q.reader b.entries b.ends
  pub text : List ℕ
  pub written : Appends old new text
  pub took : (s : State) → In s p.reader a → TookWith s p.report bytes q b text

-- ---- the end of the input

-- the lines of every heap that was left were written
pub record LeftTold (p : Progress) (a : Room) (old new : Option (List ℕ)) : Type 0 where
  pub text : List ℕ
  pub written : Appends old new text
  pub lines : (s : State) → In s p.reader a → text ≡ lines_from p.report (map whole (given s []))

-- what is written for heaps by a report: the lines of each as the report takes it, and the totals
abbrev pub text_by : Report → List Heap → List ℕ
text_by p hs = lines_from p (map whole hs) ++ totals_line (report_from p (map whole hs)).totals

abbrev pub text_for : List Heap → List ℕ
text_for hs = text_by empty hs

-- and the totals behind them
pub record LastTold (p : Progress) (a : Room) (old new : Option (List ℕ)) : Type 0 where
  pub text : List ℕ
  pub written : Appends old new text
  pub all : (s : State) → In s p.reader a → text ≡ text_by p.report (given s [])

-- ---- a read

-- it took some bytes, one at least; the counter says so of its own `Told`, and one record for both would take that as a function of the bytes, which is no shorter
pub record ReadTold (p : Progress) (a : Room) (q : Progress) (b : Room) (from to old new : Option (List ℕ)) : Type 0 where
  pub bytes : List ℕ
  pub some : 1 ≤ length bytes
  pub read : Consumes from to bytes
  pub told : Told p a bytes q b old new

-- or it found that the input had ended
pub record EndTold (p : Progress) (a : Room) (from old new : Option (List ℕ)) : Type 0 where
  pub read : IsAtEnd from
  pub told : LastTold p a old new

abbrev pub StepTold : Progress → Room → Option Progress → Room → Option (List ℕ) → Option (List ℕ) → Option (List ℕ) → Option (List ℕ) → Type 0
StepTold p a (Some q) b from to old new = ReadTold p a q b from to old new
StepTold p a None b from to old new = EndTold p a from old new
