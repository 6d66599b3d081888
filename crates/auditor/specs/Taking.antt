-- What some bytes of the input did to the reader, the arrays and the report. What was read and written stands in `Written`.
-- Assumes nothing: these are definitions.
use Rattle.std.specs.Prelude.{ℕ, ◌≤◌, ◌≡◌, List, [], ◌++◌, map, Option, IfSome}
use Rattle.rules.specs.declared.audit.Report.{Report}
use Rattle.rules.specs.declared.audit.Audited.{Audited}
use Rattle.rules.specs.Heap.{Heap, cells}
use Rattle.rules.specs.Audit.{audited, report_from}
use Rattle.dump.specs.declared.reader.Reader.{Reader}
use Rattle.dump.specs.Reading.{State, heap_given, given}
use Rattle.dump.specs.Holding.{Holds, Ready, Starts}
use Rattle.auditor.specs.declared.Progress.{Progress}
use Rattle.auditor.specs.declared.Room.{Room}
use Rattle.auditor.specs.Output.{whole}

-- the reader and the arrays hold the state s
abbrev pub In : State → Reader → Room → Type 0
In s r a = Holds s r a.entries a.ends

-- between two bytes: the reader and the arrays hold some state, and there is room for the largest heap
pub record Held (r : Reader) (a : Room) : Type 0 where
  pub ready : Ready r a.entries a.ends
  pub state : State
  pub holds : In state r a

-- the complete heap has so many cells, or more than there may be
pub record CellsOf (r : Reader) (entries ends : List ℕ) (n : ℕ) : Type 0 where
  pub most : n ≤ 1024
  pub is : (s : State) → Holds s r entries ends → cells (heap_given s) ≤ 1024 → n ≡ cells (heap_given s)

-- the heap that is complete was audited
abbrev pub HeapAudited : Reader → List ℕ → List ℕ → Report → Audited → Type 0
HeapAudited r entries ends p a = (s : State) → Holds s r entries ends → a ≡ audited p (whole (heap_given s))

-- some bytes took the state s and the report p to the state t and the report q. Whatever follows them, the heaps that they completed are those that s gives
-- and t no longer does.
pub record Took (s : State) (p : Report) (bytes : List ℕ) (t : State) (q : Report) : Type 0 where
  pub heaps : List Heap
  pub read : (rest : List ℕ) → given s (bytes ++ rest) ≡ heaps ++ given t rest
  pub report : q ≡ report_from p (map whole heaps)

-- the same, of the reader and the arrays that hold them
pub record TookTo (s : State) (p : Report) (bytes : List ℕ) (q : Progress) (a : Room) : Type 0 where
  pub state : State
  pub holds : In state q.reader a
  pub took : Took s p bytes state q.report

pub record Advanced (p : Progress) (a : Room) (bytes : List ℕ) (q : Progress) (b : Room) : Type 0 where
  pub ready : Ready q.reader b.entries b.ends
  pub took : (s : State) → In s p.reader a → TookTo s p.report bytes q b

-- the input has ended: the report has taken every heap that was left
abbrev pub Ended : Progress → Room → Progress → Type 0
Ended p a q = (s : State) → In s p.reader a → q.report ≡ report_from p.report (map whole (given s []))

-- a complete heap was taken into the report, and the next begins
pub record Begun (p : Progress) (a : Room) (q : Progress) : Type 0 where
  pub starts : Starts q.reader
  pub report : (s : State) → In s p.reader a → q.report ≡ (audited p.report (whole (heap_given s))).report

-- after a read: some bytes were taken, if the run goes on
pub record TakenSome (p : Progress) (a : Room) (r : Option Progress) (b : Room) : Type 0 where
  pub bytes : List ℕ
  pub taken : IfSome r (λ q. Advanced p a bytes q b)
