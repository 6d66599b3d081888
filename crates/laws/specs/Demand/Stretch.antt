-- Document 02, Q-7: a batch is a stretch of a list of calls, and lists in which batches and single calls mix satisfy demands 2 and 3.
-- Assumes nothing.
use Prim.Native.Nat.{ℕ, zero, suc}
use native.Mathlib.Omega.{arith}
use mathlib.Core.List.{List, [], ◌∷◌, map}
use Rattle.std.specs.Prelude.{◌≡◌}
use Rattle.std.proofs.Math.Path.{refl, sym, ap, subst⁻¹}
use Rattle.std.proofs.Common.{◌∙◌}
use Rattle.rules.specs.declared.Answer.{Answer}
use Rattle.rules.specs.Heap.{Heap}
use Rattle.rules.specs.Calls.{answers, Unchanged}
use Rattle.rules.specs.Asked.{Asked, obey, obey_all, answers_to}
use Rattle.rules.specs.Batch.{Batch, asks, refusal_of, obey_batch, refuse_batch, by_batch_refusal, batch_step}
use Rattle.rules.specs.Events.{Event, Trace, left, run, by_refusal_events, events_of}
use Rattle.rules.specs.Mixed.{IsStretch, BatchIsStretch, HostCall, HostTrace, events_in, MixedCalls}
use Rattle.rules.specs.Mixed.HostCall.{single, batched}
use Rattle.laws.specs.Sound.Facts.{ready_facts, facts_ready}
use Rattle.laws.specs.Calls.Batch.{batch_fine}
use Rattle.laws.specs.Calls.Batched.{batched_as}
use Rattle.laws.specs.Demand.Events.{between_sound, run_trace, trace-append}
use Rattle.laws.specs.Demand.Second.{demand_2}
use Rattle.laws.specs.Demand.Third.{demand_3}

-- ---- a list of calls by the rules leaves the tables and the answers of the calls one after another

run_left : (h : Heap) (l : List Asked) → left h (run h l) ≡ obey_all h l
unfolding run left obey_all
run_left h [] = refl
run_left h (q ∷ l) = run_left (obey h q).heap l

run_answers : (h : Heap) (l : List Asked) → answers_to h l ≡ map (λ (e : Event). e.answer) (run h l)
unfolding run answers_to
run_answers h [] = refl
run_answers h (q ∷ l) = ap (λ (r : List Answer). (obey h q).answer ∷ r) (run_answers (obey h q).heap l)

-- ---- a batch

module _ (h : Heap) (b : Batch) where
  -- what it leaves, and its events, by the number that it is refused with
  abbrev Stretch : ℕ → Type 0
  Stretch n = (events_of h b ≡ by_refusal_events h b n) → IsStretch b h (by_batch_refusal h b n).heap (by_batch_refusal h b n).answers (by_batch_refusal h b n).answer

  done_stretch : refusal_of h b ≡ 0 → Stretch 0
  unfolding by_batch_refusal by_refusal_events obey_batch
  done_stretch e are =
      let l : List Asked = asks b.records in
      let trace : Trace h (events_of h b) = subst⁻¹ (Trace h) are (run_trace h l) in
      record {
        trace = trace;
        leaves = ap (left h) are ∙ run_left h l;
        done = λ z. are;
        answers = λ z. run_answers h l ∙ ap (map (λ (e : Event). e.answer)) (sym are);
        refused = λ n. absurd (n refl);
        ready = λ z g m. facts_ready (between_sound (events_of h b) (ready_facts (batch_fine h _ _ b.totals e).0) trace m);
      }

  refused_stretch : (r : ℕ) → refusal_of h b ≡ suc r → Stretch (suc r)
  unfolding by_batch_refusal by_refusal_events refuse_batch left
  refused_stretch r e are =
      let unchanged : Unchanged h [] h [] (answers (suc r) 0 0 0) = record { tables = refl; kept = refl; freed = refl; queued = refl; cell = refl } in
      record {
        trace = subst⁻¹ (Trace h) are ((λ z. omega arith, record { why = sym e; unchanged = unchanged }), tt);
        leaves = ap (left h) are;
        done = λ z. absurd (omega arith);
        answers = λ z. absurd (omega arith);
        refused = λ n. are;
        ready = λ z. absurd (omega arith);
      }

  stretch : IsStretch b h (batch_step h b).heap (batch_step h b).answers (batch_step h b).answer
  unfolding batch_step events_of
  stretch = go (refusal_of h b) refl refl
    where
      go : (n : ℕ) → refusal_of h b ≡ n → Stretch n
      go zero e = done_stretch e
      go (suc r) e = refused_stretch r e

pub batch_is_stretch : BatchIsStretch
batch_is_stretch b before after list sums answer d = batched_as (λ g l t a. IsStretch b before g l a) d (stretch before b)

-- ---- batches among single calls

mixed_trace : (h : Heap) (l : List HostCall) → HostTrace h l → Trace h (events_in h l)
unfolding events_in
mixed_trace h [] t = tt
mixed_trace h (single e ∷ l) t = (t.0, mixed_trace e.after l t.1)
mixed_trace h (batched b after list sums answer ∷ l) t =
    let s = batch_is_stretch b h after list sums answer t.0 in
    trace-append h (events_of h b) (events_in after l) s.trace
    (subst⁻¹ (λ (g : Heap). Trace g (events_in after l)) s.leaves (mixed_trace after l t.1))

pub mixed_calls : MixedCalls
mixed_calls h b l t =
    let trace : Trace h (events_in h l) = mixed_trace h l t in
    record { trace = trace; always = demand_2.always h b (events_in h l) trace; claim = demand_3 h b (events_in h l) trace }
