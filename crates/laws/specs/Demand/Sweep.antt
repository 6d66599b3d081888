-- A sweep made next on a sound heap is quiet exactly where the used cells are just the reached ones, and that is exactly where there is no loose ring.
-- Assumes nothing.
use Rattle.std.specs.Prelude.{ℕ, suc, List, [], ◌∷◌, ◌++◌, map, ◌≡◌, refl, ◌↔◌, length}
use Rattle.std.proofs.Common.{arith, append-nil, ◌∙◌, length-append}
use Rattle.std.proofs.Math.Decide.{dec_lt}
use Rattle.std.proofs.Math.Path.{sym, ap, subst⁻¹}
use Rattle.std.proofs.Math.Logic.{by_cases, ⊎_elim}
use Rattle.std.proofs.lemmas.List.{length-map}
use Rattle.rules.specs.declared.Answer.{Answer}
use Rattle.rules.specs.Lists.{occ}
use Rattle.rules.specs.Heap.{Heap, kind_of, entries, Free}
use Rattle.rules.specs.Reach.{Exact, LooseRing}
use Rattle.rules.specs.Refusals.{is_fresh, refusal_sound, conditions, lowest, lent_fits}
use Rattle.rules.specs.Refusals.Call.{COLLECT}
use Rattle.rules.specs.Collect.{unreached_finalizable, garbage, collect}
use Rattle.rules.specs.Calls.{Result, refuse, step, step_lent, listed, room, Did, act, finished}
use Rattle.rules.specs.Numbers.{freed_cells}
use Rattle.rules.specs.Demand3.{NextSweep, QuietSweep, QuietAnswer}
use Rattle.laws.specs.Lists.Tests.{split}
use Rattle.laws.specs.Lists.Occ.{occ_nil, occ_empty}
use Rattle.laws.specs.Sound.But.{SoundBut}
use Rattle.laws.specs.Sound.Facts.{facts_ready}
use Rattle.laws.specs.Reach.Marked.{reached?}
use Rattle.laws.specs.Reach.Graph.{exact_ring}
use Rattle.laws.specs.Collect.Left.{collect_left}
use Rattle.laws.specs.Collect.Swept.{collect_freed, freed_collect, idle_exact, exact_idle}
use Rattle.laws.specs.Collect.Ordered.{collect_ordered}
use Rattle.laws.specs.Calls.Admission.{step_done, ready_refused}
use Rattle.laws.specs.Calls.Did.{lent_step, lent_refused, room_step}

module _ (h : Heap) (s : SoundBut h []) where
  -- a sweep of a sound heap is done
  step_collect : step h COLLECT ≡ finished (collect h)
  unfolding refusal_sound conditions lowest act is_fresh
  step_collect = step_done h COLLECT (ready_refused h COLLECT (facts_ready s) refl)

  pub swept_heap : (step h COLLECT).heap ≡ (collect h).heap
  unfolding finished
  swept_heap = ap (λ (r : Result). r.heap) step_collect

  swept_freed : (step h COLLECT).answer.freed ≡ length (garbage h)
  unfolding finished collect
  swept_freed = ap (λ (r : Result). r.answer.freed) step_collect

  swept_queued : (step h COLLECT).answer.queued ≡ length (unreached_finalizable h)
  unfolding finished collect
  swept_queued = ap (λ (r : Result). r.answer.queued) step_collect

  -- its list stands in order of cell number
  pub sweep_ordered : (step h COLLECT).freed ≡ freed_cells h (step h COLLECT).heap
  unfolding finished
  sweep_ordered = ap (λ (r : Result). r.freed) step_collect ∙ collect_ordered h s ∙ sym (ap (λ (r : Result). freed_cells h r.heap) step_collect)

  -- the sweep that the rules make next, lent a table of N entries
  next : NextSweep h (step h COLLECT).heap (step h COLLECT).answer
  unfolding finished
  next =
      let at : step_lent h (room h) COLLECT ≡ step h COLLECT = room_step h COLLECT in
      record {
        lent = room h;
        list = listed (room h) (step_lent h (room h) COLLECT);
        did = record { heap = sym (ap (λ (r : Result). r.heap) at); freed = refl; answered = sym (ap (λ (r : Result). r.answer) at) };
        done = ap (λ (r : Result). r.answer.refused) step_collect;
      }

  -- a sweep done is the one on the heap: the table that it was lent fits
  pub swept_as : {lent list : List ℕ} {after : Heap} {a : Answer} → Did COLLECT h lent after list a → a.refused ≡ 0
      → (after ≡ (step h COLLECT).heap) × (a ≡ (step h COLLECT).answer)
  unfolding refuse
  swept_as {lent} d z =
      ⊎_elim
      (λ t.
      let at : step_lent h lent COLLECT ≡ step h COLLECT = lent_step h lent COLLECT t in
      (d.heap ∙ ap (λ (r : Result). r.heap) at, d.answered ∙ ap (λ (r : Result). r.answer) at))
      (λ f. absurd (omega (arith, z, ap (λ (x : Answer). x.refused) d.answered, ap (λ (r : Result). r.answer.refused) (lent_refused h lent COLLECT f))))
      (split (lent_fits h lent COLLECT))

  no_entries : (l : List ℕ) → length l ≡ 0 → l ≡ []
  no_entries [] e = refl
  no_entries (x ∷ l) e = absurd (omega arith)

  pub counted_at : Exact h ↔ ¬ LooseRing h
  counted_at = exact_ring h s (reached? h s)

  pub quiet_at : QuietSweep h ↔ Exact h
  quiet_at = (to, from)
    where
      to : QuietSweep h → Exact h
      to q =
          let at : q.after ≡ (collect h).heap = (swept_as q.sweep.did q.sweep.done).0 ∙ swept_heap in
          let same : entries (collect h).heap ≡ entries h = sym (ap (λ (g : Heap). entries g) at) ∙ q.queues_nothing in
          exact_idle h s
          (no_entries (unreached_finalizable h)
          (omega (arith, ap length (sym (collect_left h s).entries_are ∙ same), length-append (entries h) (map suc (unreached_finalizable h)), length-map (unreached_finalizable h) suc)))
          (occ_empty (garbage h) (λ c. by_cases (dec_lt 0 (occ c (garbage h)))
          (λ b.
          let f = collect_freed h s c b in
          absurd (q.frees_nothing c (record { used = f.0; free = subst⁻¹ (λ (g : Heap). Free g c) at f.1 })))
          (λ n. omega arith)))

      from : Exact h → QuietSweep h
      from x =
          let i = idle_exact h s x in
          record {
            after = (step h COLLECT).heap;
            answer = (step h COLLECT).answer;
            sweep = next;
            frees_nothing = λ c f.
                let free = ap (λ (g : Heap). kind_of g c) (sym swept_heap) ∙ f.free in
                omega (arith, freed_collect h s c f.used free, ap (occ c) i.1, occ_nil c);
            queues_nothing =
                ap (λ (g : Heap). entries g) swept_heap ∙ (collect_left h s).entries_are ∙ ap (λ (l : List ℕ). entries h ++ map suc l) i.0 ∙ append-nil (entries h);
          }

  pub answered_at : QuietAnswer h ↔ Exact h
  answered_at = (to, from)
    where
      to : QuietAnswer h → Exact h
      to q =
          let a : q.answer ≡ (step h COLLECT).answer = (swept_as q.sweep.did q.sweep.done).1 in
          exact_idle h s
          (no_entries (unreached_finalizable h) (sym swept_queued ∙ sym (ap (λ (x : Answer). x.queued) a) ∙ q.queued))
          (no_entries (garbage h) (sym swept_freed ∙ sym (ap (λ (x : Answer). x.freed) a) ∙ q.freed))

      from : Exact h → QuietAnswer h
      from x =
          let i = idle_exact h s x in
          record {
            after = (step h COLLECT).heap;
            answer = (step h COLLECT).answer;
            sweep = next;
            freed = swept_freed ∙ ap length i.1;
            queued = swept_queued ∙ ap length i.0;
          }
