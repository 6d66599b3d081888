-- `steps::obey` meets its contract: each call is done as its function says. Assumes nothing.
use Prim.Native.Nat.{ℕ}
use mathlib.Core.List.{List, []}
use mathlib.Core.Path.{◌≡◌, ap}
use Rattle.std.specs.Prelude.{Some}
use Rattle.rules.specs.declared.Answer.{Answer}
use Rattle.rules.specs.Heap.{Heap}
use Rattle.rules.specs.Refusals.{Call}
use Rattle.rules.specs.Asked.{Asked, obey, Obeyed}
use Rattle.rules.specs.Asked.Asked.{call}
use Rattle.laws.specs.Calls.Inner.{Ran}
use Rattle.steps.specs.Call.{asked}
use Rattle.steps.proofs.obey.Goals as goal

obeyed : {before after : Heap} {room list : List ℕ} {answer : Answer} {q : Asked} {c : Call} → q ≡ call c → Ran c before room after list answer
    → Obeyed q before after answer
unfolding obey
obeyed is ran = rw is (record { heap = ran.heap; answered = ran.answered })

pub returns-in-New-clause-obeyed : goal.returns-in-New-clause-obeyed
returns-in-New-clause-obeyed c = obeyed (ap (λ x. asked (Some x)) c.in-New.is) (c.new.ensures.ran [])

pub returns-in-Clear-clause-obeyed : goal.returns-in-Clear-clause-obeyed
returns-in-Clear-clause-obeyed c = obeyed (ap (λ x. asked (Some x)) c.in-Clear.is) (c.clear.ensures.ran)

pub returns-in-Copy-clause-obeyed : goal.returns-in-Copy-clause-obeyed
returns-in-Copy-clause-obeyed c = obeyed (ap (λ x. asked (Some x)) c.in-Copy.is) (c.copy.ensures.ran)

pub returns-in-Load-clause-obeyed : goal.returns-in-Load-clause-obeyed
returns-in-Load-clause-obeyed c = obeyed (ap (λ x. asked (Some x)) c.in-Load.is) (c.load.ensures.ran)

pub returns-in-Store-clause-obeyed : goal.returns-in-Store-clause-obeyed
returns-in-Store-clause-obeyed c = obeyed (ap (λ x. asked (Some x)) c.in-Store.is) (c.store.ensures.ran)

pub returns-in-Collect-clause-obeyed : goal.returns-in-Collect-clause-obeyed
returns-in-Collect-clause-obeyed c = obeyed (ap (λ x. asked (Some x)) c.in-Collect.is) (c.collect.ensures.ran)

pub returns-in-Start-clause-obeyed : goal.returns-in-Start-clause-obeyed
returns-in-Start-clause-obeyed c = obeyed (ap (λ x. asked (Some x)) c.in-Start.is) (c.start.ensures.ran [])

pub returns-in-Finish-clause-obeyed : goal.returns-in-Finish-clause-obeyed
returns-in-Finish-clause-obeyed c = obeyed (ap (λ x. asked (Some x)) c.in-Finish.is) (c.finish.ensures.ran)
