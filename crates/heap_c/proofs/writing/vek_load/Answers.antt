-- `heap_c::writing::vek_load` meets its contract: refused by what `admit_lent` answers, or as the function on a sound heap does.
-- Assumes nothing.
use mathlib.Core.Path.{refl}
use Rattle.std.proofs.Common.{rules}
use Rattle.rules.specs.Refusals.{is_fresh}
use Rattle.heap_c.proofs.Entries.{refused_first, ready_now, list_fits, did}
use Rattle.answers.proofs.Refusing.{refused_by}
use Rattle.heap_c.proofs.writing.vek_load.Goals as goal

pub returns-in-Err : goal.returns-in-Err
unfolding is_fresh
returns-in-Err c = refused_first _ _ refl c.in-Err.ensures (refused_by c.refuse.ensures)

pub load-requires : goal.load-requires
load-requires c = ready_now _ c.in_default.ensures

pub end_list-requires : goal.end_list-requires
end_list-requires c = list_fits _ c.in_default.ensures c.answered-answer.ensures c.load.ensures.ran

pub returns : goal.returns
returns c =
    let did-so = did _ c.in_default.ensures c.answered-answer.ensures c.load.ensures.ran c.load.auto.freed c.end_list.ensures in
    search (rules, did-so)
