-- The calls that are made for lines are a list to which demand 3 applies. Assumes nothing.
use native.Mathlib.Omega.{arith}
use mathlib.Core.Path.{refl, subst⁻¹}
use mathlib.Core.List.{List, [], ◌∷◌, ◌++◌, map}
use Rattle.csv_text.specs.Lines.{Record}
use Rattle.rules.specs.Heap.{Heap, fresh}
use Rattle.rules.specs.Asked.{obey_all}
use Rattle.rules.specs.Sound.{Sized}
use Rattle.rules.specs.Calls.{answers, done, act}
use Rattle.rules.specs.Events.{Trace, Between, left, event_of, run}
use Rattle.rules.specs.Events.Between.{first, behind}
use Rattle.laws.specs.Calls.Admission.{fresh_ready}
use Rattle.laws.specs.Calls.Outer.{fresh_done}
use Rattle.laws.specs.Demand.Events.{run_trace, trace-append, between_append}
use Rattle.laws.specs.Demand.Third.{demand_3}
use Rattle.session.specs.Session.{asked_of, after_line, session, after_all}
use Rattle.session.specs.Program.{at_start}
use Rattle.session.specs.CallsMade.{made, Lined, LinesKeep, ProgramBegins}
use Rattle.session.specs.CallsMade.Lined.{no_lines, line}

-- ---- what lines ask for

all_lined : (h : Heap) (rs : List Record) → Lined rs (made h rs) (session h rs)
unfolding run session
all_lined h [] = no_lines
all_lined h (r ∷ rs) = line r (event_of h (asked_of r)) refl (all_lined (after_line h r) rs)

-- the tables after some of the lines
between_lines : (h : Heap) (p q : List Record) → Between h (made h (p ++ q)) (after_all h p)
unfolding run obey_all
between_lines h [] q = first
between_lines h (r ∷ p) q = behind (between_lines (after_line h r) p q)

-- ---- from a FRESH done

pub lines_keep : LinesKeep
lines_keep h b es t rs =
    let k : Heap = left h es in
    let whole : Trace h (es ++ made k rs) = trace-append h es (made k rs) t (run_trace k (map asked_of rs)) in
    record {
      trace = whole;
      lines = all_lined k rs;
      between = λ p q e.
          between_append h (after_all k p) es (made k rs)
          (subst⁻¹ (λ (l : List Record). Between k (made k l) (after_all k p)) e (between_lines k p q));
      claim = demand_3 h b (es ++ made k rs) whole;
    }

pub program_begins : ProgramBegins
unfolding act done fresh
program_begins =
    let sized : Sized at_start = (fresh_ready 256 (omega arith) (omega arith)).sized in
    record { stale = at_start; answer = answers 0 0 0 0; did = fresh_done sized refl refl; done = refl }
