-- Demand 1 of `step_lent`: a call is refused by the lowest number of document 01's table that is given, and by none exactly where none is given;
-- a refusal changes nothing.
-- Assumes nothing.
use Prim.Native.Nat.{ℕ, zero, suc}
use Rattle.std.specs.Prelude.{List, ◌≢◌, ◌≡◌}
use Rattle.std.proofs.Math.Path.{refl}
use Rattle.rules.specs.Heap.{Heap}
use Rattle.rules.specs.Refusals.{Call, Why, refusal_lent}
use Rattle.rules.specs.Refusals.Call.{FRESH, NEW, CLEAR, COPY, LOAD, STORE, COLLECT, START, FINISH}
use Rattle.rules.specs.Calls.{refuse, done, finished, act, by_refusal, step_lent, by_answer, listed, Unchanged}
use Rattle.rules.specs.Demand1.{DoneOrRefused}
use Rattle.laws.specs.Calls.Judge.{judge, bound}
use Rattle.laws.specs.Calls.Agrees.{agreed}

-- what isn't refused answers 0
act_done : (h : Heap) (call : Call) → (act h call).answer.refused ≡ 0
unfolding act done finished
act_done h FRESH = refl
act_done h (NEW r k f) = refl
act_done h (CLEAR r) = refl
act_done h (COPY to from) = refl
act_done h (LOAD to o s) = refl
act_done h (STORE o s from) = refl
act_done h COLLECT = refl
act_done h (START r) = refl
act_done h FINISH = refl

-- the number that a call answers
by_number : (h : Heap) (call : Call) (n : ℕ) → (by_refusal h call n).answer.refused ≡ n
unfolding by_refusal refuse
by_number h call zero = act_done h call
by_number h call (suc n) = refl

module _ (h : Heap) (lent : List ℕ) (call : Call) where
  step_number : (step_lent h lent call).answer.refused ≡ refusal_lent h lent call
  unfolding step_lent
  step_number = by_number h call (refusal_lent h lent call)

  -- "A refusal changes no table entry and answers freed 0, queued 0, cell 0."
  refusal_changes_nothing : refusal_lent h lent call ≢ 0
      → Unchanged h lent (step_lent h lent call).heap (listed lent (step_lent h lent call)) (step_lent h lent call).answer
  unfolding step_lent
  refusal_changes_nothing n = go (refusal_lent h lent call) n
    where
      go : (m : ℕ) → m ≢ 0 → Unchanged h lent (by_refusal h call m).heap (listed lent (by_refusal h call m)) (by_refusal h call m).answer
      go zero n = absurd (n refl)
      go (suc m) n = unfold by_refusal refuse listed by_answer in record { tables = refl; kept = refl; freed = refl; queued = refl; cell = refl }

  pub step_listed : DoneOrRefused (λ k. Why k h lent call)
      (Unchanged h lent (step_lent h lent call).heap (listed lent (step_lent h lent call)) (step_lent h lent call).answer) (step_lent h lent call).answer
  step_listed =
      agreed (step_lent h lent call).answer (record { judge = judge h lent call; bound = bound h lent call }) step_number refusal_changes_nothing
