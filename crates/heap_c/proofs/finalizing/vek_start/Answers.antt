-- `heap_c::finalizing::vek_start` meets its contract: refused by what `admit_lent` answers, or as the function on a sound heap does.
-- Assumes nothing.
use mathlib.Core.Path.{refl}
use Rattle.std.proofs.Common.{rules}
use Rattle.rules.specs.Refusals.{is_fresh}
use Rattle.heap_c.proofs.Entries.{refused_first, ready_now, list_fits, did}
use Rattle.answers.proofs.Refusing.{refused_by}
use Rattle.heap_c.proofs.finalizing.vek_start.Goals as goal

pub returns-in-Err : goal.returns-in-Err
unfolding is_fresh
returns-in-Err c = refused_first _ _ refl c.in-Err.ensures (refused_by c.refuse.ensures)

pub start-requires : goal.start-requires
start-requires c = ready_now _ c.in_default.ensures

pub end_list-requires : goal.end_list-requires
end_list-requires c = list_fits _ c.in_default.ensures c.answered-answer.ensures (c.start.ensures.ran c.args.freed.now)

pub returns : goal.returns
returns c =
    let did-so = did _ c.in_default.ensures c.answered-answer.ensures (c.start.ensures.ran c.args.freed.now) refl c.end_list.ensures in
    search (rules, did-so)
