-- Every call, done or refused, on a sound heap: it leaves a sound one (demand 2), its numbers are true, and the slots of the cells in use are as they stood.
-- Assumes nothing.
use Rattle.std.specs.Prelude.{ℕ, zero, suc, ◌≤◌, List, [], ◌++◌, map, true, false, not, ◌&&◌, ◌≡◌, refl, ◌⊎◌, get_or, drop, eqb}
use Rattle.std.proofs.Common.{arith, append-nil, ◌∙◌, inl, inr, ⊎_elim}
use Rattle.std.proofs.Math.Path.{sym, ap, subst⁻¹}
use Rattle.std.proofs.Math.ListN.{length}
use Rattle.std.proofs.lemmas.Bool.{not-true}
use Rattle.rules.specs.Lists.{occ}
use Rattle.rules.specs.Heap.{Heap, cells, kind_of, entries, fresh}
use Rattle.rules.specs.Sound.{Ready}
use Rattle.rules.specs.Refusals.{Call, is_fresh, refusal_sound}
use Rattle.rules.specs.Refusals.Call.{FRESH, NEW, CLEAR, COPY, LOAD, STORE, COLLECT, START, FINISH}
use Rattle.rules.specs.Calls.{Result, step, step_lent, listed, refuse, done}
use Rattle.rules.specs.Asked.{Asked, obey}
use Rattle.rules.specs.Asked.Asked.{call as asks, LINE}
use Rattle.rules.specs.Numbers.{freed_cells, leaving, names, TrueNumbers}
use Rattle.rules.specs.Demand3.{stood}
use Rattle.laws.specs.Lists.Tests.{none_of, clash, and_left, and_right}
use Rattle.laws.specs.Lists.Occ.{occ_nil, occ_empty, occ_refs, zero_refs}
use Rattle.laws.specs.Lists.Select.{select_only}
use Rattle.laws.specs.Lists.Tables.{get_or-zeros}
use Rattle.laws.specs.Sound.But.{SoundBut}
use Rattle.laws.specs.Sound.Facts.{ready_tests, ready_facts, facts_ready}
use Rattle.laws.specs.Reach.Safe.{Kept}
use Rattle.laws.specs.Calls.Admission.{admission, admission_sound, ready_or_refused, step_refused, step_done, step_fresh, fresh_ready, ready_refused}
use Rattle.laws.specs.Calls.Arguments.{by_fresh}
use Rattle.laws.specs.Calls.Asked.{asks_fresh}
use Rattle.laws.specs.Calls.Did.{by_lent, step_freed, names_listed, rest_listed}
use Rattle.laws.specs.Calls.Outcome.{outcome_freed}
use Rattle.laws.specs.Calls.Done.{Performed, performed}
use Rattle.laws.specs.Demand.Sweep.{sweep_ordered}

stood_refused : (h : Heap) (call : Call) (n : ℕ) → stood h call (suc n) ≡ h.slots
unfolding stood
stood_refused h FRESH n = refl
stood_refused h (NEW r k f) n = refl
stood_refused h (CLEAR r) n = refl
stood_refused h (COPY to from) n = refl
stood_refused h (LOAD to o s) n = refl
stood_refused h (STORE o s from) n = refl
stood_refused h COLLECT n = refl
stood_refused h (START r) n = refl
stood_refused h FINISH n = refl

leaving_refused : (call : Call) (n : ℕ) → leaving call (suc n) ≡ 0
unfolding leaving
leaving_refused FRESH n = refl
leaving_refused (NEW r k f) n = refl
leaving_refused (CLEAR r) n = refl
leaving_refused (COPY to from) n = refl
leaving_refused (LOAD to o s) n = refl
leaving_refused (STORE o s from) n = refl
leaving_refused COLLECT n = refl
leaving_refused (START r) n = refl
leaving_refused FINISH n = refl

-- every used cell stays in use
none_freed : (h : Heap) → freed_cells h h ≡ []
unfolding freed_cells
none_freed h = occ_empty (freed_cells h h) (λ c. none_of (occ c (freed_cells h h)) (λ b. both c (select_only _ (cells h) c b).1))
  where
    both : (c : ℕ) → (not (eqb (kind_of h c) 0) && eqb (kind_of h c) 0) ≡ true → ⊥
    both c e = clash (and_right (not (eqb (kind_of h c) 0)) (eqb (kind_of h c) 0) e) (not-true _ (and_left (not (eqb (kind_of h c) 0)) (eqb (kind_of h c) 0) e))

-- what a call leaves: a sound heap, with the slots of the cells in use as they stood
pub record Good (h : Heap) (call : Call) (r : Result) : Type 0 where
  pub sound : SoundBut r.heap []
  pub kept : Kept r.heap (stood h call r.answer.refused)

module _ (h : Heap) (s : SoundBut h []) where
  -- ---- a refusal, or a call done

  refused_good : (call : Call) (n : ℕ) → Good h call (refuse h (suc n))
  unfolding refuse
  refused_good call n = record { sound = s; kept = rw (stood_refused h call n) (λ c i u b. refl) }

  -- a list of no entries names no cell
  refused_numbers : (call : Call) (n : ℕ) (list : List ℕ) → TrueNumbers call h (refuse h (suc n)).heap list (refuse h (suc n)).answer
  unfolding refuse
  refused_numbers call n list = record {
    freed = sym (ap length (none_freed h));
    went = λ c. (λ o. absurd (omega (arith, occ_nil (suc c))), λ p. absurd (omega (arith, p.0, p.1)));
    once = λ r. omega (arith, occ_nil r);
    none_empty = occ_nil 0;
    ordered = λ e. ap (map suc) (sym (none_freed h));
    rest = λ e. absurd (omega arith);
    joined = [];
    queue = rw (leaving_refused call n) (sym (append-nil (entries h)));
    queued = refl;
  }

  performed_good : (call : Call) (r : Result) → Performed h call r → Good h call r
  performed_good call r p = record {
    sound = rw p.heap p.outcome.sound;
    kept = rw (p.heap, p.refused) p.outcome.kept;
  }

  performed_numbers : (call : Call) (r : Result) (list : List ℕ) → Performed h call r → names list r.answer ≡ map suc r.freed
      → ((i : ℕ) → r.answer.freed ≤ i → get_or list i 0 ≡ 0) → (call ≡ COLLECT → r.freed ≡ freed_cells h r.heap)
      → TrueNumbers call h r.heap list r.answer
  performed_numbers call r list p named rest ordered =
      let o = p.outcome in
      let refs : (c : ℕ) → occ (suc c) (names list r.answer) ≡ occ c p.work.freed =
      λ c. ap (occ (suc c)) named ∙ occ_refs c r.freed ∙ ap (occ c) p.list in
      let empty : occ 0 (names list r.answer) ≡ 0 = ap (occ 0) named ∙ zero_refs r.freed in
      let kind : (c : ℕ) → kind_of r.heap c ≡ kind_of p.work.heap c = λ c. ap (λ (g : Heap). kind_of g c) p.heap in
      record {
        freed = p.freed ∙ outcome_freed o ∙ ap (λ (g : Heap). length (freed_cells h g)) (sym p.heap);
        went = λ c. (
          λ b. let f = o.freed c (omega (arith, refs c)) in (f.0, kind c ∙ f.1),
          λ f. omega (arith, refs c, o.all c f.0 (sym (kind c) ∙ f.1)),
        );
        once = elim [ zero ↦ omega (arith, empty) | suc c ↦ omega (arith, refs c, o.once c) ];
        none_empty = empty;
        ordered = λ e. named ∙ ap (map suc) (ordered e);
        rest = λ e. rest;
        joined = p.work.queued;
        queue =
            ap (λ (g : Heap). entries g) p.heap ∙ o.entered ∙ ap (λ (n : ℕ). drop (leaving call n) (entries h) ++ map suc p.work.queued) (sym p.refused);
        queued = p.queued;
      }

  -- what a step of the eight calls is
  step_cases : (call : Call) → is_fresh call ≡ false → ((n : ℕ) × (step h call ≡ refuse h (suc n))) ⊎ Performed h call (step h call)
  step_cases call f = go (refusal_sound h call) refl
    where
      go : (n : ℕ) → refusal_sound h call ≡ n → ((n : ℕ) × (step h call ≡ refuse h (suc n))) ⊎ Performed h call (step h call)
      go zero e = inr (rw (step_done h call (ready_refused h call (facts_ready s) f ∙ e)) (performed h s call f e))
      go (suc n) e = inl (n, step_refused h call (suc n) (sym (ready_refused h call (facts_ready s) f ∙ e)) (λ z. omega arith))

  eight_good : (call : Call) → is_fresh call ≡ false → Good h call (step h call)
  eight_good call f = ⊎_elim (λ p. rw p.1 (refused_good call p.0)) (performed_good call (step h call)) (step_cases call f)

  -- FRESH leaves no cell in use
  fresh_good : Good h FRESH (step h FRESH)
  unfolding done fresh
  fresh_good =
      let z = (facts_ready s).sized in
      rw (step_fresh h z) (record { sound = ready_facts (fresh_ready (cells h) z.least z.most); kept = λ c i u b. absurd (omega (arith, get_or-zeros (cells h) c)) })

  pub good_step : (call : Call) → Good h call (step h call)
  good_step = by_fresh fresh_good eight_good

  -- the same of a call that is lent a table: where that doesn't fit, the call is refused
  pub good_lent : (lent : List ℕ) (call : Call) → Good h call (step_lent h lent call)
  good_lent lent call = by_lent h lent call (Good h call) (good_step call) (refused_good call 0)

-- Demand 2: "From a sound heap it leaves a sound one."
pub sound_step : (h : Heap) → Ready h → (call : Call) → Ready (step h call).heap
sound_step h r call = facts_ready (good_step h (ready_facts r) call).sound

-- whatever four numbers ask for, the tables that it leaves are admitted, or not admitted for the same reason, as those that it found
pub admission_kept : (h : Heap) (q : Asked) → asks_fresh q ≡ false → admission (obey h q).heap ≡ admission h
unfolding obey refuse
admission_kept h LINE f = refl
admission_kept h (asks c) f =
    ⊎_elim
    (λ r. admitted_as (sound_step h r c) ∙ sym (admitted_as r))
    (λ p. ap (λ (r : Result). admission r.heap) p.1)
    (ready_or_refused h c (unfold asks_fresh in f))
  where
    admitted_as : {g : Heap} → Ready g → admission g ≡ 0
    admitted_as {g} r = let t = ready_tests r in admission_sound g t.0 t.1

-- The numbers that each of the eight calls answers are true of the tables, and so is its list of freed cells.
pub true_numbers : (h : Heap) → Ready h → (lent : List ℕ) (call : Call) → is_fresh call ≡ false
    → TrueNumbers call h (step_lent h lent call).heap (listed lent (step_lent h lent call)) (step_lent h lent call).answer
true_numbers h r lent call f =
    by_lent h lent call (λ x. TrueNumbers call h x.heap (listed lent x) x.answer)
    (⊎_elim
    (λ p. subst⁻¹ (λ (x : Result). TrueNumbers call h x.heap (listed lent x) x.answer) p.1 (refused_numbers h s call p.0 _))
    (λ p. performed_numbers h s call (step h call) (listed lent (step h call)) p (names_listed lent (step h call) p.refused (step_freed h call))
    (rest_listed lent (step h call) p.refused (step_freed h call)) ordered)
    (step_cases h s call f))
    (refused_numbers h s call 0 _)
  where
    s : SoundBut h []
    s = ready_facts r

    ordered : call ≡ COLLECT → (step h call).freed ≡ freed_cells h (step h call).heap
    ordered e = subst⁻¹ (λ (k : Call). (step h k).freed ≡ freed_cells h (step h k).heap) e (sweep_ordered h s)
