-- `heap_c::batches::vek_batch` meets its contract: what `admit_batch` refuses is refused, and anything else is run.
-- Assumes nothing.
use Rattle.std.proofs.Common.{rules, ℕ, sym, ◌∙◌, ap}
use Rattle.rules.specs.Calls.{answers}
use Rattle.rules.proofs.Refusing.{refuses}
use Rattle.batch.proofs.Outcome.{can_run, batch_done, batch_refused}
use Rattle.answers.proofs.Refusing.{refused_by}
use Rattle.heap_c.proofs.batches.vek_batch.Goals as goal

pub returns-in-Err : goal.returns-in-Err
returns-in-Err c =
    let why = c.in-Err.ensures in
    batch_refused _ _ (λ e. refuses _ (why ∙ e)) ((refused_by c.refuse.ensures) ∙ ap (λ (x : ℕ). answers x 0 0 0) why)

pub run-requires : goal.run-requires
run-requires c = can_run _ _ (sym (c.in_default.ensures))

pub returns : goal.returns
returns c =
    let all-done = batch_done _ _ (sym (c.in_default.ensures)) c.run.ensures.all_ran c.done.ensures in
    search (rules, all-done)
