-- What four numbers ask for on a sound heap: the heap stays sound, and no more cells are freed or queued than a heap can have.
-- Assumes nothing.
use Rattle.std.specs.Prelude.{ℕ, suc, ◌≤◌, List, map, false, ◌≡◌, length, drop}
use Rattle.std.proofs.Common.{arith, ap, subst, length-append}
use Rattle.std.proofs.lemmas.List.{length-map}
use Rattle.rules.specs.declared.Answer.{Answer}
use Rattle.rules.specs.Heap.{Heap, cells, entries}
use Rattle.rules.specs.Sound.{Ready}
use Rattle.rules.specs.Refusals.{Call, is_fresh}
use Rattle.rules.specs.Calls.{Result, refuse, step, listed, room}
use Rattle.rules.specs.Asked.{Asked, obey}
use Rattle.rules.specs.Asked.Asked.{call as asks, LINE}
use Rattle.rules.specs.Numbers.{freed_cells, leaving, TrueNumbers}
use Rattle.laws.specs.Lists.Pigeonhole.{pigeonhole}
use Rattle.laws.specs.Lists.Select.{select_only, select_once}
use Rattle.laws.specs.Sound.Reflect.{entries-length}
use Rattle.laws.specs.Calls.Asked.{asks_fresh}
use Rattle.laws.specs.Calls.Did.{room_step}
use Rattle.laws.specs.Demand.Step.{sound_step, true_numbers}

pub obey_ready : (h : Heap) (q : Asked) → Ready h → Ready (obey h q).heap
unfolding obey refuse
obey_ready h (asks c) r = sound_step h r c
obey_ready h LINE r = r

-- the freed cells are cells of the heap, each once
freed_few : (h after : Heap) → length (freed_cells h after) ≤ cells h
unfolding freed_cells
freed_few h after = pigeonhole (cells h) (freed_cells h after) (select_once _ (cells h)) (λ c o. (select_only _ (cells h) c o).0)

-- the cells that joined the queue stand in it, and it is no longer than the heap has cells
numbers_few : {call : Call} {h after : Heap} {list : List ℕ} {a : Answer} → Ready h → Ready after → TrueNumbers call h after list a
    → (a.freed ≤ 1024) × (a.queued ≤ 1024)
numbers_few {call} {h} {after} {a = a} r s t =
    let left : List ℕ = drop (leaving call a.refused) (entries h) in (
      omega (arith, t.freed, freed_few h after, r.sized.most),
      omega (
        arith,
        t.queued,
        length-map t.joined suc,
        length-append left (map suc t.joined),
        ap length t.queue,
        entries-length after s.sized s.sound.rule4.0,
        s.sound.rule4.0,
        s.sized.most,
      ),
    )

-- the call, lent a table of its size
step_numbers : (h : Heap) (c : Call) → is_fresh c ≡ false → Ready h
    → TrueNumbers c h (step h c).heap (listed (room h) (step h c)) (step h c).answer
step_numbers h c f r =
    subst (λ (x : Result). TrueNumbers c h x.heap (listed (room h) x) x.answer) (room_step h c) (true_numbers h r (room h) c f)

pub obey_few : (h : Heap) (q : Asked) → asks_fresh q ≡ false → Ready h → ((obey h q).answer.freed ≤ 1024) × ((obey h q).answer.queued ≤ 1024)
unfolding obey refuse asks_fresh
obey_few h (asks c) f r = numbers_few r (sound_step h r c) (step_numbers h c f r)
obey_few h LINE f r = (omega arith, omega arith)
