-- Demand 1: a call, four numbers or a batch is done, or refused with the one number that the papers list, exactly when they list it; a refusal changes nothing.
-- Assumes nothing.
use Rattle.std.specs.Prelude.{◌≤◌, [], ◌≡◌, refl}
use Rattle.std.proofs.Common.{arith, inr, subst}
use Rattle.std.proofs.Math.Path.{subst⁻¹}
use Rattle.rules.specs.Heap.{Heap}
use Rattle.rules.specs.Refusals.{Reason, number, Why}
use Rattle.rules.specs.Refusals.Reason.{LINE}
use Rattle.rules.specs.Calls.{Result, refuse, Unchanged, room}
use Rattle.rules.specs.Asked.{Asked, obey}
use Rattle.rules.specs.Asked.Asked.{call, LINE as no_call}
use Rattle.rules.specs.Batch.{WhyBatch}
use Rattle.rules.specs.Demand1.{DoneOrRefused, WhyAsked, WritesNothing, Demand1}
use Rattle.laws.specs.Calls.Did.{room_step, did_as}
use Rattle.laws.specs.Calls.Agrees.{Agrees, agreed, leaving_less}
use Rattle.laws.specs.Calls.Refusals.{step_listed}
use Rattle.laws.specs.Calls.Batched.{batched_as, batch_listed}

-- four numbers that name no call: refused 11, always and by nothing else
line_agrees : Agrees (λ k. k ≡ LINE) 11
unfolding number
line_agrees = record {
  judge = inr (LINE, refl, refl);
  bound = λ k e. subst⁻¹ (λ (j : Reason). (1 ≤ 11) × (11 ≤ number j)) e (omega arith, omega arith);
}

abbrev Answered : Heap → Asked → Result → Type 0
Answered h q r = DoneOrRefused (λ k. WhyAsked k h q) (Unchanged h [] r.heap [] r.answer) r.answer

asked_listed : (h : Heap) (q : Asked) → Answered h q (obey h q)
unfolding obey refuse
asked_listed h (call c) =
    subst (Answered h (call c)) (room_step h c)
    (leaving_less
    (λ u. record { tables = u.tables; kept = refl; freed = u.freed; queued = u.queued; cell = u.cell })
    (step_listed h (room h) c))
asked_listed h no_call =
    agreed _ line_agrees refl (λ n. record { tables = refl; kept = refl; freed = refl; queued = refl; cell = refl })

pub demand_1 : Demand1
demand_1 = record {
  calls = λ call before lent after list answer d.
      did_as (λ g l a. DoneOrRefused (λ k. Why k before lent call) (Unchanged before lent g l a) a) d (step_listed before lent call);
  numbers = λ q before after answer o.
      rw (o.heap, o.answered) (asked_listed before q);
  batches = λ b before after list sums answer d.
      batched_as (λ g l t a. DoneOrRefused (λ k. WhyBatch k before b) (WritesNothing b before g l t a) a) d (batch_listed before b);
}
