-- What a collection on a sound heap leaves and answers is what COLLECT does.
-- Assumes nothing.
use Prim.Native.Nat.{ℕ}
use mathlib.Core.Path.{◌≡◌, refl, sym, subst, ap, ◌∙◌}
use mathlib.Core.List.{List}
use Rattle.rules.specs.declared.Answer.{Answer}
use Rattle.rules.specs.Heap.{Heap}
use Rattle.rules.specs.Sound.{Ready}
use Rattle.rules.specs.Refusals.{Call, is_fresh}
use Rattle.rules.specs.Refusals.Call.{COLLECT}
use Rattle.rules.specs.Calls.{finished, act}
use Rattle.laws.specs.Sound.Facts.{ready_facts}
use Rattle.laws.specs.Calls.Cases.{collect_goes}
use Rattle.laws.specs.Collect.Left.{collect_left}
use Rattle.sweep.specs.Phases.{Collected}
use Rattle.laws.specs.Calls.Inner.{Ran, inner_done}

pub collect_ran : {h after : Heap} {room list : List ℕ} {a : Answer} → Ready h → Collected h room after list a → Ran COLLECT h room after list a
unfolding is_fresh act finished
collect_ran {h} ok d = inner_done ok refl (collect_goes h) d.heap d.answered (ap (λ (x : Answer). x.refused) d.answered) d.listed

-- and the roots stay
pub collect_roots : {h after : Heap} {room list : List ℕ} {a : Answer} → Ready h → Collected h room after list a → after.roots ≡ h.roots
collect_roots {h} ok d = ap (λ (g : Heap). g.roots) d.heap ∙ (collect_left h (ready_facts ok)).roots

-- what was answered is the call's answer, number by number
pub ran_answered : {call : Call} {h after : Heap} {room list : List ℕ} {a : Answer} (b : Answer)
    → (a.refused ≡ b.refused) × (a.freed ≡ b.freed) × (a.queued ≡ b.queued) × (a.cell ≡ b.cell) → Ran call h room after list b → Ran call h room after list a
ran_answered {call} {h} {after} {room} {list} {a} b is ran =
    let same : b ≡ a = λ i. record { refused = sym is.0 i; freed = sym is.1 i; queued = sym is.2 i; cell = sym is.3 i } in
    subst (λ (x : Answer). Ran call h room after list x) same ran
