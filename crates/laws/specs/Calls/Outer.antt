-- An entry for C: it admits the heap and the table that it is lent for the freed cells, runs the function on the sound heap, and ends the list.
-- Assumes nothing.
use Rattle.std.specs.Prelude.{ℕ, zero, suc, ◌-◌, ◌≤◌, false, cond, ◌≢◌, ◌≡◌, eqb, length, take, replicate}
use Rattle.std.proofs.Math.Decide.{ℕ_discrete}
use Rattle.std.proofs.Common.{arith, ◌∙◌, length-take, eq-eqb, ne_eqb}
use mathlib.Core.List.{List, [], ◌++◌}
use Rattle.std.proofs.Math.Path.{refl, sym, ap}
use Rattle.std.proofs.lemmas.List.{length-map}
use Rattle.rules.specs.declared.Answer.{Answer}
use Rattle.rules.specs.Heap.{Heap, cells}
use Rattle.rules.specs.Sound.{Sized, Ready}
use Rattle.rules.specs.Check.{fits}
use Rattle.rules.specs.Refusals.{Call, is_fresh, refusal, lent_fits}
use Rattle.rules.specs.Refusals.Call.{FRESH}
use Rattle.rules.specs.Calls.{Result, answers, refuse, done, act, by_refusal, step, step_lent, references, listed, Did}
use Rattle.laws.specs.Calls.Admission.{admission, not_admitted, ready, step_refused, step_done, refusal_size, refusal_fresh}
use Rattle.laws.specs.Calls.Lent.{fits_lent, misfits_lent}
use Rattle.laws.specs.Calls.Did.{lent_step, lent_refused, listed_refused, listed_done, step_freed}
use Rattle.laws.specs.Calls.Inner.{Ran}

-- ---- refused before anything is done

-- what every call but FRESH asks first: 1 SIZE where the lent table has not N entries, else what the heap's tables say
unfoldable pub admission_lent : Heap → List ℕ → ℕ
admission_lent h lent = cond (eqb (length lent) (cells h)) (admission h) 1

pub admission_misfit : (h : Heap) (lent : List ℕ) → length lent ≢ cells h → admission_lent h lent ≡ 1
unfolding admission_lent
admission_misfit h lent n = rw (ne_eqb (length lent) (cells h) n) refl

pub admission_fit : (h : Heap) (lent : List ℕ) → length lent ≡ cells h → admission_lent h lent ≡ admission h
unfolding admission_lent
admission_fit h lent e = rw (eq-eqb (length lent) (cells h) e) refl

-- a call that is refused by what `step_lent` says
did_refuse : {h : Heap} {lent : List ℕ} {call : Call} {why : ℕ} {a : Answer} → step_lent h lent call ≡ refuse h why → why ≢ 0 → a ≡ answers why 0 0 0
    → Did call h lent h lent a
unfolding refuse
did_refuse {h} {lent} {call} {why} s some b = record {
  heap = sym (ap (λ (x : Result). x.heap) s);
  freed = sym (ap (listed lent) s ∙ listed_refused lent (refuse h why) some);
  answered = b ∙ sym (ap (λ (x : Result). x.answer) s);
}

-- where it answers a refusal, the call answers it
pub outer_refused : {h : Heap} {lent : List ℕ} {call : Call} {why : ℕ} {a : Answer} → is_fresh call ≡ false → why ≡ admission_lent h lent → why ≢ 0
    → a ≡ answers why 0 0 0 → Did call h lent h lent a
outer_refused {h} {lent} {call} {why} n w some b = elim (ℕ_discrete (length lent) (cells h)) [
  | yes e ↦
      let is : why ≡ admission h = w ∙ admission_fit h lent e in
      let heap : step h call ≡ refuse h why = step_refused h call why (is ∙ not_admitted h call n (λ z. some (is ∙ z))) some in
      did_refuse (lent_step h lent call (fits_lent h lent call e) ∙ heap) some b
  | no e ↦
      let is : why ≡ 1 = w ∙ admission_misfit h lent e in
      did_refuse (lent_refused h lent call (misfits_lent h lent call n e) ∙ ap (refuse h) (sym is)) some b
]

-- where it answers DONE, the function on a sound heap may go on
pub record Admitted (h : Heap) (lent : List ℕ) : Type 0 where
  pub ready : Ready h
  pub sized : length lent ≡ cells h

pub outer_ready : {h : Heap} {lent : List ℕ} {why : ℕ} → why ≡ admission_lent h lent → why ≡ 0 → Admitted h lent
outer_ready {h} {lent} {why} w z = elim (ℕ_discrete (length lent) (cells h)) [
  | yes e ↦ record { ready = ready h (sym (w ∙ admission_fit h lent e) ∙ z); sized = e }
  | no e ↦ absurd (omega (arith, admission_misfit h lent e))
]

-- ---- done, or refused by the call's own conditions

-- the list's end: after a call done the entries from n on become 0; after a refusal the table stays
pub record Ended (refused n : ℕ) (l l' : List ℕ) : Type 0 where
  pub done : refused ≡ 0 → l' ≡ take n l ++ replicate (length l - n) 0
  pub kept : refused ≢ 0 → l' ≡ l

-- the list has room in the table
pub ran_fits : {h after : Heap} {lent list : List ℕ} {call : Call} {a : Answer} → length lent ≡ cells h → Ran call h lent after list a → a.freed ≤ length list
ran_fits {h} {list = list} {call} e r =
    let f : List ℕ = (step h call).freed in
    omega (arith, ap (λ (b : Answer). b.freed) r.answered, step_freed h call, ap length (r.listed (omega arith)), length-map f suc, length-take (length f) list)

-- the function ran on a lent table that fits, and then the list was ended
pub outer_ran : {h after : Heap} {lent list list' : List ℕ} {call : Call} {a : Answer} → length lent ≡ cells h → Ran call h lent after list a
    → length list ≡ length lent → Ended a.refused a.freed list list' → Did call h lent after list' a
unfolding references
outer_ran {h} {after} {lent} {list} {list'} {call} {a} e r same t =
    let x : Result = step h call in
    let s : step_lent h lent call ≡ x = lent_step h lent call (fits_lent h lent call e) in
    let refused : a.refused ≡ x.answer.refused = ap (λ (b : Answer). b.refused) r.answered in
    let many : a.freed ≡ length x.freed = ap (λ (b : Answer). b.freed) r.answered ∙ step_freed h call in
    let is : list' ≡ listed lent x = elim (ℕ_discrete a.refused 0) [
      | yes z ↦
          t.done z ∙ (λ i. take (many i) list ++ replicate (same i - many i) 0)
          ∙ ap (λ (l : List ℕ). l ++ replicate (length lent - length x.freed) 0) (r.listed (omega arith)) ∙ sym (listed_done lent x (sym refused ∙ z))
      | no n ↦ t.kept n ∙ r.kept n ∙ sym (listed_refused lent x (λ z. n (refused ∙ z)))
    ] in
    record {
      heap = r.heap ∙ sym (ap (λ (y : Result). y.heap) s);
      freed = is ∙ sym (ap (listed lent) s);
      answered = r.answered ∙ sym (ap (λ (y : Result). y.answer) s);
    }

-- ---- FRESH, which takes no such table

fresh_frees_none : (h : Heap) → (step h FRESH).freed ≡ []
unfolding step by_refusal act done refuse
fresh_frees_none h = go (refusal h FRESH)
  where
    go : (n : ℕ) → (by_refusal h FRESH n).freed ≡ []
    go zero = refl
    go (suc n) = refl

fresh_did : {h after : Heap} {a : Answer} → after ≡ (step h FRESH).heap → a ≡ (step h FRESH).answer → Did FRESH h [] after [] a
unfolding is_fresh lent_fits
fresh_did {h} {after} {a} heap answered =
    let x : Result = step h FRESH in
    let s : step_lent h [] FRESH ≡ x = lent_step h [] FRESH refl in
    let is : [] ≡ listed [] x = elim (ℕ_discrete x.answer.refused 0) [
      | yes z ↦ let nothing : [] ≡ references 0 [] = unfold references in refl in nothing ∙ ap (references 0) (sym (fresh_frees_none h)) ∙ sym (listed_done [] x z)
      | no n ↦ sym (listed_refused [] x n)
    ] in
    record {
      heap = heap ∙ sym (ap (λ (y : Result). y.heap) s);
      freed = is ∙ sym (ap (listed []) s);
      answered = answered ∙ sym (ap (λ (y : Result). y.answer) s);
    }

-- refused where the heap's tables don't fit
pub fresh_refused : {h : Heap} {a : Answer} → fits h ≡ false → a ≡ answers 1 0 0 0 → Did FRESH h [] h [] a
unfolding refuse
fresh_refused {h} e b =
    let s : step h FRESH ≡ refuse h 1 = step_refused h FRESH 1 (sym (refusal_size h FRESH e)) (λ z. omega arith) in
    fresh_did (sym (ap (λ (x : Result). x.heap) s)) (b ∙ sym (ap (λ (x : Result). x.answer) s))

pub fresh_done : {h after : Heap} {a : Answer} → Sized h → after ≡ (act h FRESH).heap → a ≡ (act h FRESH).answer → Did FRESH h [] after [] a
fresh_done {h} z heap answered =
    let s : step h FRESH ≡ act h FRESH = step_done h FRESH (refusal_fresh h z) in
    fresh_did (heap ∙ sym (ap (λ (x : Result). x.heap) s)) (answered ∙ sym (ap (λ (x : Result). x.answer) s))
