-- `allocation::placing::new_shared` meets its contract: it is refused as `choose` says, or the choice is placed, beside the tables that are only read.
-- Assumes nothing.
use Rattle.std.proofs.Common.{arith, rules, refl, ap}
use Rattle.rules.specs.Heap.{Heap, tables}
use Rattle.answers.proofs.Refusing.{passed_on}
use Rattle.allocation.proofs.Making.{new_refused, new_ran, choice_placeable, choice_small}
use Rattle.allocation.proofs.placing.new_shared.Goals as goal

pub returns-in_err-choice : goal.returns-in_err-choice
returns-in_err-choice c =
    new_refused c.requires _ _ _ _ (c.in_err-choice.ensures _ refl refl) (omega arith) (omega arith) (omega arith) (passed_on _ _ c.from_residual.ensures.1)

pub place-requires : goal.place-requires
place-requires c =
    let p = choice_placeable c.requires.sized (c.in_ok-choice.ensures _ refl refl) in
    record { small = p.small; kind_room = p.kind_room; flags_room = p.flags_room; count_room = p.count_room; roots_room = p.roots_room }

pub made-requires : goal.made-requires
made-requires c = choice_small c.requires.sized (c.in_ok-choice.ensures _ refl refl)

pub returns : goal.returns
returns c =
    let placed = ap (λ (h : Heap). tables h.kind h.flags h.count c.args.slots.now h.roots c.args.queue.now c.args.control.now) c.place.ensures.placed in
    let ran = new_ran {r = c.args.root} {k = c.args.wanted} {f = c.args.finalizer} c.requires (c.in_ok-choice.ensures _ refl refl) (omega arith) (omega arith) (omega arith) placed c.made.ensures in
    search (rules, ran)
