-- What a batch comes to, by its refusal, in plain lists and numbers.
-- Assumes nothing.
use Prim.Native.Nat.{ℕ, zero, suc}
use mathlib.Core.List.{List}
use mathlib.Core.Logic.{◌≢◌}
use mathlib.Core.Path.{◌≡◌, refl, sym, ◌∙◌, ap}
use lib.ListN.{length}
use Rattle.rules.specs.declared.Answer.{Answer}
use Rattle.rules.specs.declared.batch.Totals.{Totals}
use Rattle.rules.specs.Heap.{Heap}
use Rattle.rules.specs.Calls.{answers}
use Rattle.rules.specs.Batch.{Batch, BatchResult, refusal_of, obey_batch, refuse_batch, by_batch_refusal, batch_step, Batched}
use Rattle.batch.specs.Run.{CanRun, AllRan}
use Rattle.laws.specs.Calls.Batch.{batch_fine}

module _ (h : Heap) (b : Batch) where
  pub can_run : refusal_of h b ≡ 0 → CanRun b h
  can_run e =
      let fine = batch_fine h (length b.records) (length b.answers) b.totals e in
      record { ready = fine.0; places = sym fine.1; room = fine.3 }

  as_step : {after : Heap} {list : List Answer} {sums : Totals} {a : Answer} (r : BatchResult) → batch_step h b ≡ r
      → after ≡ r.heap → list ≡ r.answers → sums ≡ r.totals → a ≡ r.answer → Batched b h after list sums a
  as_step r e p q s t = record {
    heap = p ∙ sym (ap (λ (x : BatchResult). x.heap) e);
    answers = q ∙ sym (ap (λ (x : BatchResult). x.answers) e);
    totals = s ∙ sym (ap (λ (x : BatchResult). x.totals) e);
    answered = t ∙ sym (ap (λ (x : BatchResult). x.answer) e);
  }

  pub batch_done : {after : Heap} {list : List Answer} {sums : Totals} {a : Answer} → refusal_of h b ≡ 0 → AllRan b h after list sums
      → a ≡ answers 0 0 0 0
      → Batched b h after list sums a
  unfolding batch_step by_batch_refusal obey_batch
  batch_done e ran t = as_step (obey_batch h b) (ap (by_batch_refusal h b) e) ran.heap ran.answers ran.totals t

  pub batch_refused : {a : Answer} → refusal_of h b ≢ 0 → a ≡ answers (refusal_of h b) 0 0 0 → Batched b h h b.answers b.totals a
  batch_refused {a} some t = go (refusal_of h b) refl
    where
      go : (r : ℕ) → refusal_of h b ≡ r → Batched b h h b.answers b.totals a
      go zero e = absurd (some e)
      go (suc r) e = unfold batch_step by_batch_refusal refuse_batch in
          as_step (refuse_batch h b (suc r)) (ap (by_batch_refusal h b) e) refl refl refl (t ∙ ap (λ (x : ℕ). answers x 0 0 0) e)
