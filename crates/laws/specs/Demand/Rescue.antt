-- Document 02, Q-2: what a COLLECT makes of the flags of a cell that it doesn't free, on any tables.
-- Assumes nothing.
use Rattle.std.specs.Prelude.{ℕ, List, ◌≡◌, refl, ◌⊎◌}
use Rattle.std.proofs.Common.{arith, ◌∙◌}
use Rattle.std.proofs.Math.Path.{ap, subst⁻¹}
use Rattle.std.proofs.Math.Logic.{inl, inr, ⊎_elim}
use Rattle.rules.specs.declared.Answer.{Answer}
use Rattle.rules.specs.Lists.{occ}
use Rattle.rules.specs.Heap.{Heap, queued, flags_of, Free}
use Rattle.rules.specs.Sound.{Ready}
use Rattle.rules.specs.Collect.{garbage, collect}
use Rattle.rules.specs.Refusals.{is_fresh}
use Rattle.rules.specs.Refusals.Call.{COLLECT}
use Rattle.rules.specs.Calls.{Result, refuse, step, step_lent, Did}
use Rattle.rules.specs.Demand3.{Frees}
use Rattle.rules.specs.Rescue.{RescueDecisions}
use Rattle.laws.specs.Lists.Tests.{none_of}
use Rattle.laws.specs.Sound.Facts.{ready_facts}
use Rattle.laws.specs.Collect.Left.{collect_left}
use Rattle.laws.specs.Collect.Swept.{collect_freed}
use Rattle.laws.specs.Calls.Did.{ready_or_refused_lent}
use Rattle.laws.specs.Demand.Sweep.{swept_heap}

module _ {before after : Heap} {lent list : List ℕ} {answer : Answer} (did : Did COLLECT before lent after list answer) (c : ℕ)
    (stays : ¬ Frees before after c) where
  -- the call is the sweep of a sound heap, or refused
  abbrev Sweeps : Type 0
  Sweeps = Ready before × (step_lent before lent COLLECT ≡ step before COLLECT)

  swept : (r : Sweeps) → after ≡ (collect before).heap
  swept r = did.heap ∙ ap (λ (x : Result). x.heap) r.1 ∙ swept_heap before (ready_facts r.0)

  -- a cell that is not freed is none of the garbage
  not_garbage : (r : Sweeps) → occ c (garbage before) ≡ 0
  not_garbage r = none_of (occ c (garbage before)) (λ b.
      let f = collect_freed before (ready_facts r.0) c b in
      stays (record { used = f.0; free = subst⁻¹ (λ (g : Heap). Free g c) (swept r) f.1 }))

  at_cell : (r : Sweeps) → flags_of after c ≡ flags_of (collect before).heap c
  at_cell r = ap (λ (g : Heap). flags_of g c) (swept r)

  -- the flags stay, or the cell was rescued; a refused COLLECT changes nothing
  stay_or_rescued : (flags_of after c ≡ flags_of before c) ⊎ ((flags_of before c ≡ 3) × (queued before ≡ 0))
  unfolding is_fresh refuse
  stay_or_rescued =
      ⊎_elim
      (λ r. ⊎_elim (λ e. inl (at_cell r ∙ e)) (λ x. inr (x.0, x.2)) ((collect_left before (ready_facts r.0)).flags_out c (not_garbage r)))
      (λ p. inl (ap (λ (g : Heap). flags_of g c) (did.heap ∙ ap (λ (r : Result). r.heap) p.1)))
      (ready_or_refused_lent before lent COLLECT refl)

  made : answer.refused ≡ 0 → queued before ≡ 0 → flags_of before c ≡ 3 → flags_of after c ≡ 1
  unfolding is_fresh refuse
  made d q f =
      ⊎_elim
      (λ r. at_cell r ∙ (collect_left before (ready_facts r.0)).rescued_in c (not_garbage r) f q)
      (λ p. absurd (omega (arith, d, ap (λ (a : Answer). a.refused) (did.answered ∙ ap (λ (r : Result). r.answer) p.1))))
      (ready_or_refused_lent before lent COLLECT refl)

pub rescue_decisions : RescueDecisions
rescue_decisions = record {
  postponed = λ d q c s. ⊎_elim (λ e. e) (λ x. absurd (omega (arith, x.1))) (stay_or_rescued d c s);
  made = λ n q c s. made n.did c s n.done q;
  others = λ d c s n. ⊎_elim (λ e. e) (λ x. absurd (n x.0)) (stay_or_rescued d c s);
}
