-- More than the demands say would be false: each theorem refutes a demand with one part made stronger, by the list of `Example`.
-- Each is also a wrong edit of its demand, in tests/edits/across, which the proofs of the demands refuse.
-- Assumes nothing.
use Rattle.std.specs.Prelude.{ℕ, List, ◌↔◌, ◌≡◌, refl}
use Rattle.std.proofs.Common.{arith, lit≤}
use Rattle.rules.specs.declared.Answer.{Answer}
use Rattle.rules.specs.Lists.{select}
use Rattle.rules.specs.Heap.{Heap, entries}
use Rattle.rules.specs.Sound.{Ready}
use Rattle.rules.specs.Reach.{Chain, Exact, LooseRing}
use Rattle.rules.specs.Reach.Chain.{root, further}
use Rattle.rules.specs.Refusals.{Call, Reason, number, Why}
use Rattle.rules.specs.Refusals.Call.{FRESH, LOAD, STORE}
use Rattle.rules.specs.Refusals.Reason.{EMPTY}
use Rattle.rules.specs.Refusals.Why.{load_empty}
use Rattle.rules.specs.Calls.{Did}
use Rattle.rules.specs.Events.{calling, Event, Trace, Finds, Between, Begins}
use Rattle.rules.specs.Events.Finds.{here, later}
use Rattle.rules.specs.Events.Between.{first, behind}
use Rattle.rules.specs.Numbers.{freed_cells, TrueNumbers}
use Rattle.rules.specs.Demand3.{Frees, stood_for, NextSweep}
use Rattle.laws.specs.Demand.Second.{demand_2}
use Rattle.laws.specs.Demand.Example.{empty, one_object, holding, ring, queued_ring, events, begins, trace, fresh_clears, load_refused}
use Rattle.laws.specs.Demand.Witness.{nothing_reached, stands_loose}

-- ---- demand 1

-- "a number is given exactly where its reason holds", without "the lowest number": root 64 is both too high and empty
pub any_reason_false :
    ¬ ((call : Call) (before : Heap) (lent : List ℕ) (after : Heap) (list : List ℕ) (answer : Answer) → Did call before lent after list answer → (k : Reason)
    → (answer.refused ≡ number k) ↔ Why k before lent call)
unfolding number
any_reason_false claim = omega (arith, (claim (LOAD 0 64 0) empty _ empty _ _ load_refused EMPTY).1 (load_empty refl))

-- ---- demand 2

-- "freed is the cells used before and free after", of FRESH too: it answers 0
pub fresh_numbers_false :
    ¬ ((call : Call) (before : Heap) (lent : List ℕ) (after : Heap) (list : List ℕ) (answer : Answer) → Did call before lent after list answer → Ready before
    → TrueNumbers call before after list answer)
unfolding freed_cells select
fresh_numbers_false claim =
    let ready : Ready one_object = (demand_2.always empty begins events trace).ready one_object (behind first) in
    omega (arith, (claim FRESH one_object _ empty _ _ fresh_clears ready).freed)

-- ---- demand 3

-- what is claimed of every list from a FRESH done: of each of its calls, and of the tables between them
abbrev OfCalls : (Heap → Event → Type 0) → Type 0
OfCalls P = (h : Heap) → Begins h → (l : List Event) → Trace h l → (before : Heap) (e : Event) → Finds h l before e → P before e

abbrev OfTables : (Heap → Type 0) → Type 0
OfTables P = (h : Heap) → Begins h → (l : List Event) → Trace h l → (g : Heap) → Between h l g → P g

-- the tables before the first sweep stand there
between_ring : Between empty events (ring 1)
between_ring = behind (behind (behind (behind (behind (behind (behind (behind (behind first))))))))

-- the used cells are always just the reached ones: not while a loose ring stands
pub always_exact_false : ¬ OfTables Exact
always_exact_false claim = nothing_reached _ 0 ((claim empty begins events trace (ring 1) between_ring 0).0 (lit≤ tt))

-- no call frees a cell that the roots reached before it: CLEAR of the last root does
pub roots_before_false :
    ¬ OfCalls (λ before e. (c : ℕ) → Frees before e.after c → ¬ Chain before.roots (entries e.after) (stood_for before e.request e.answer.refused) c)
roots_before_false claim =
    claim empty begins events trace one_object _ (later (later (later (later (later here))))) 0 (record { used = lit≤ tt; free = refl }) (root 0 refl)

-- what stood for a STORE is the slots as it found them: one that replaces a reference frees what that named
pub slots_before_false :
    ¬ OfCalls (λ before e. (o s from : ℕ) → e.request ≡ calling (STORE o s from) → (c : ℕ) → Frees before e.after c
    → ¬ Chain e.after.roots (entries e.after) before.slots c)
slots_before_false claim =
    claim empty begins events trace holding _ (later (later (later (later here)))) 0 0 1 refl 1 (record { used = lit≤ tt; free = refl })
    (further (root 0 refl) (record { slot = 0; in_cell = lit≤ tt; holds = refl }))

-- a completed sweep made next frees nothing, and may queue
pub record FreesNothing (h : Heap) : Type 0 where
  pub after : Heap
  pub answer : Answer
  pub sweep : NextSweep h after answer
  pub freed : answer.freed ≡ 0

-- a sweep frees nothing exactly where there is no loose ring: one that queues a ring's finalizer frees nothing either
pub freeing_alone_false : ¬ OfTables (λ g. FreesNothing g ↔ ¬ LooseRing g)
freeing_alone_false claim =
    let swept = trace.1.1.1.1.1.1.1.1.1.0 in
    (claim empty begins events trace (ring 1) between_ring).0
    (record { after = queued_ring; answer = _; sweep = record { lent = _; list = _; did = swept; done = refl }; freed = refl }) (stands_loose 1)
