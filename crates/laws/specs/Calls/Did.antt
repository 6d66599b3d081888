-- A call that is lent a table for the cells that it frees: it is the call on the heap, or refused SIZE for the table's length; and the list that it leaves.
-- Assumes nothing.
use Rattle.std.specs.Prelude.{ℕ, zero, suc, ◌+◌, ◌-◌, ◌≤◌, List, ◌++◌, map, true, false, ◌≢◌, ◌⊎◌, ◌≡◌, length, get_or, take, replicate}
use Rattle.std.proofs.Common.{arith, inl, inr, ⊎_elim, sym, ap, ◌∙◌, take_at, get_or-append-add}
use Rattle.std.proofs.Math.Path.{refl, subst⁻¹}
use Rattle.std.proofs.lemmas.List.{length-map, length-replicate}
use Rattle.rules.specs.declared.Answer.{Answer}
use Rattle.rules.specs.Heap.{Heap, cells}
use Rattle.rules.specs.Sound.{Ready}
use Rattle.rules.specs.Refusals.{Call, is_fresh, refusal, lent_fits}
use Rattle.rules.specs.Refusals.Call.{FRESH, NEW, CLEAR, COPY, LOAD, STORE, COLLECT, START, FINISH}
use Rattle.rules.specs.Calls.{Result, refuse, done, finished, act, by_refusal, step, step_lent, references, by_answer, listed, Did, room}
use Rattle.rules.specs.Numbers.{names}
use Rattle.laws.specs.Lists.Tests.{split}
use Rattle.laws.specs.Lists.Tables.{get_or-zeros}
use Rattle.laws.specs.Calls.Admission.{ready_or_refused}
use Rattle.laws.specs.Calls.Lent.{lent_fits_lem, lent_misfits, fits_lent}

pub lent_step : (h : Heap) (lent : List ℕ) (call : Call) → lent_fits h lent call ≡ true → step_lent h lent call ≡ step h call
unfolding step_lent step
lent_step h lent call t = ap (by_refusal h call) (lent_fits_lem h lent call t)

-- a table of N entries
pub room_step : (h : Heap) (call : Call) → step_lent h (room h) call ≡ step h call
unfolding room
room_step h call = lent_step h (room h) call (fits_lent h (room h) call (length-replicate (cells h) 0))

pub lent_refused : (h : Heap) (lent : List ℕ) (call : Call) → lent_fits h lent call ≡ false → step_lent h lent call ≡ refuse h 1
unfolding step_lent by_refusal
lent_refused h lent call f = ap (by_refusal h call) (lent_misfits h lent call f).2

-- what holds of the call on the heap, and of a refusal, holds of the call that is lent a table
pub by_lent : (h : Heap) (lent : List ℕ) (call : Call) (P : Result → Type 0) → P (step h call) → P (refuse h 1) → P (step_lent h lent call)
by_lent h lent call P p q =
    ⊎_elim (λ t. subst⁻¹ P (lent_step h lent call t) p) (λ f. subst⁻¹ P (lent_refused h lent call f) q) (split (lent_fits h lent call))

-- a call other than FRESH is the one on a heap that is ready, or is refused
pub ready_or_refused_lent : (h : Heap) (lent : List ℕ) (call : Call) → is_fresh call ≡ false
    → (Ready h × (step_lent h lent call ≡ step h call)) ⊎ ((n : ℕ) × (step_lent h lent call ≡ refuse h (suc n)))
ready_or_refused_lent h lent call f = go (split (lent_fits h lent call)) (ready_or_refused h call f)
  where
    go : (lent_fits h lent call ≡ true) ⊎ (lent_fits h lent call ≡ false) → Ready h ⊎ ((n : ℕ) × (step h call ≡ refuse h (suc n)))
        → (Ready h × (step_lent h lent call ≡ step h call)) ⊎ ((n : ℕ) × (step_lent h lent call ≡ refuse h (suc n)))
    go (inl t) (inl r) = inl (r, lent_step h lent call t)
    go (inl t) (inr p) = inr (p.0, lent_step h lent call t ∙ p.1)
    go (inr m) r = inr (0, lent_refused h lent call m)

-- what holds of the tables, the list and the answer that `step_lent` gives holds of those of the call
pub did_as : {call : Call} {h after : Heap} {lent list : List ℕ} {a : Answer} (P : Heap → List ℕ → Answer → Type 0) → Did call h lent after list a
    → P (step_lent h lent call).heap (listed lent (step_lent h lent call)) (step_lent h lent call).answer → P after list a
did_as {call} {h} {lent = lent} {list = list} {a = a} P d p =
    let r : Result = step_lent h lent call in
    subst⁻¹ (λ g. P g list a) d.heap (subst⁻¹ (λ l. P r.heap l a) d.freed (subst⁻¹ (P r.heap (listed lent r)) d.answered p))

-- ---- the list

pub listed_refused : (lent : List ℕ) (r : Result) → r.answer.refused ≢ 0 → listed lent r ≡ lent
unfolding listed
listed_refused lent r n = go r.answer.refused n
  where
    go : (m : ℕ) → m ≢ 0 → by_answer m lent r.freed ≡ lent
    go zero n = absurd (n refl)
    go (suc m) n = unfold by_answer in refl

pub listed_done : (lent : List ℕ) (r : Result) → r.answer.refused ≡ 0 → listed lent r ≡ references (length lent) r.freed
unfolding listed by_answer
listed_done lent r e = rw e refl

act_freed : (h : Heap) (call : Call) → (act h call).answer.freed ≡ length (act h call).freed
unfolding act done finished
act_freed h FRESH = refl
act_freed h (NEW r k f) = refl
act_freed h (CLEAR r) = refl
act_freed h (COPY to from) = refl
act_freed h (LOAD to o s) = refl
act_freed h (STORE o s from) = refl
act_freed h COLLECT = refl
act_freed h (START r) = refl
act_freed h FINISH = refl

-- the number in the answer is that of the cells
pub step_freed : (h : Heap) (call : Call) → (step h call).answer.freed ≡ length (step h call).freed
unfolding step by_refusal refuse
step_freed h call = go (refusal h call)
  where
    go : (m : ℕ) → (by_refusal h call m).answer.freed ≡ length (by_refusal h call m).freed
    go zero = act_freed h call
    go (suc m) = refl

-- after a call done the entries that the list names are the cells' references
pub names_listed : (lent : List ℕ) (r : Result) → r.answer.refused ≡ 0 → r.answer.freed ≡ length r.freed → names (listed lent r) r.answer ≡ map suc r.freed
unfolding references
names_listed lent r e many =
    ap (take r.answer.freed) (listed_done lent r e) ∙ take_at (map suc r.freed) _ r.answer.freed (length-map r.freed suc ∙ sym many)

-- and those behind them are 0
pub rest_listed : (lent : List ℕ) (r : Result) → r.answer.refused ≡ 0 → r.answer.freed ≡ length r.freed
    → (i : ℕ) → r.answer.freed ≤ i → get_or (listed lent r) i 0 ≡ 0
unfolding references
rest_listed lent r e many i behind =
    let front : List ℕ = map suc r.freed in
    let zeros : List ℕ = replicate (length lent - length r.freed) 0 in
    let at : i ≡ length front + (i - length front) = omega (arith, length-map r.freed suc) in
    ap (λ (l : List ℕ). get_or l i 0) (listed_done lent r e) ∙ ap (λ (j : ℕ). get_or (front ++ zeros) j 0) at
    ∙ get_or-append-add front zeros (i - length front) 0 ∙ get_or-zeros (length lent - length r.freed) (i - length front)
