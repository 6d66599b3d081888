-- A batch done or refused: what holds of it by the rules holds of what a batch leaves, and demand 1 of it.
-- Assumes nothing.
use Prim.Native.Nat.{ℕ, zero, suc}
use Rattle.std.specs.Prelude.{List, ◌≢◌, ◌≡◌}
use Rattle.std.proofs.Math.Path.{refl}
use Rattle.rules.specs.declared.Answer.{Answer}
use Rattle.rules.specs.declared.batch.Totals.{Totals}
use Rattle.rules.specs.Heap.{Heap}
use Rattle.rules.specs.Batch.{Batch, WhyBatch, refusal_of, obey_batch, refuse_batch, by_batch_refusal, batch_step, Batched}
use Rattle.rules.specs.Demand1.{DoneOrRefused, WritesNothing}
use Rattle.laws.specs.Calls.Agrees.{agreed}
use Rattle.laws.specs.Calls.Batch.{batch_judge, batch_bound}

pub batched_as : {b : Batch} {before after : Heap} {list : List Answer} {sums : Totals} {a : Answer} (P : Heap → List Answer → Totals → Answer → Type 0)
    → Batched b before after list sums a → P (batch_step before b).heap (batch_step before b).answers (batch_step before b).totals (batch_step before b).answer
    → P after list sums a
batched_as {b} {before} {after} {list} {sums} {a} P d p = rw (d.heap, d.answers, d.totals, d.answered) p

module _ (h : Heap) (b : Batch) where
  batch_number : (n : ℕ) → (by_batch_refusal h b n).answer.refused ≡ n
  unfolding by_batch_refusal obey_batch refuse_batch
  batch_number zero = refl
  batch_number (suc n) = refl

  -- "A refused batch writes nothing."
  writes_nothing : (n : ℕ) → n ≢ 0
      → WritesNothing b h (by_batch_refusal h b n).heap (by_batch_refusal h b n).answers (by_batch_refusal h b n).totals (by_batch_refusal h b n).answer
  unfolding by_batch_refusal refuse_batch
  writes_nothing zero some = absurd (some refl)
  writes_nothing (suc n) some = record { unchanged = record { tables = refl; kept = refl; freed = refl; queued = refl; cell = refl }; answers = refl; totals = refl }

  pub batch_listed : DoneOrRefused (λ k. WhyBatch k h b)
      (WritesNothing b h (batch_step h b).heap (batch_step h b).answers (batch_step h b).totals (batch_step h b).answer) (batch_step h b).answer
  unfolding batch_step
  batch_listed =
      agreed (batch_step h b).answer (record { judge = batch_judge h b; bound = batch_bound h b }) (batch_number (refusal_of h b)) (writes_nothing (refusal_of h b))
