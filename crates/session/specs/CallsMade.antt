-- The calls that are made for lines, and the claim that ties them to demand 3.
-- Assumes nothing: these are definitions.
use Rattle.std.specs.Prelude.{ℕ, ◌≡◌, List, [], ◌∷◌, ◌++◌, map}
use Rattle.csv_text.specs.Lines.{Record}
use Rattle.rules.specs.Heap.{Heap}
use Rattle.rules.specs.Events.{Event, Trace, Between, left, Begins, run}
use Rattle.rules.specs.Events.Request.{asked}
use Rattle.rules.specs.Demand3.{Claim}
use Rattle.session.specs.Session.{asked_of, number_of, line_of, session, after_all}
use Rattle.session.specs.Program.{at_start}

-- what is asked for by lines on the tables h, a LINE one too, with the tables that each left and its answer
abbrev pub made : Heap → List Record → List Event
made h rs = run h (map asked_of rs)

-- lines, what was asked for by them, and the output: each line has its answer, in order
pub data Lined : List Record → List Event → List ℕ → Type 0 where
  no_lines : Lined [] [] []
  line : {rs : List Record} {es : List Event} {w : List ℕ} (r : Record) (e : Event) → e.request ≡ asked (asked_of r) → Lined rs es w
      → Lined (r ∷ rs) (e ∷ es) (line_of (number_of r) e.answer ++ w)

-- The claim that ties lines to demand 3. From a FRESH done some calls were made, by entries or by lines, and lines come behind them, of one input or of
-- several: all of it is a list of calls that starts from that FRESH, so demand 3's claim holds of it.
pub record Keeps (h : Heap) (es : List Event) (rs : List Record) : Type 0 where
  pub trace : Trace h (es ++ made (left h es) rs)
  pub lines : Lined rs (made (left h es) rs) (session (left h es) rs)
  -- the tables after any of the lines are tables between those calls
  pub between : (p q : List Record) → rs ≡ p ++ q → Between h (es ++ made (left h es) rs) (after_all (left h es) p)
  pub claim : Claim h (es ++ made (left h es) rs)

abbrev pub LinesKeep : Type 0
LinesKeep = (h : Heap) → Begins h → (es : List Event) → Trace h es → (rs : List Record) → Keeps h es rs

-- the program starts so
abbrev pub ProgramBegins : Type 0
ProgramBegins = Begins at_start
