-- A call that writes a reference: what it may write, and that the tables, the list of the freed cells and the answer that it leaves are the call's.
-- Assumes nothing.
use Prim.Native.Nat.{ℕ, suc, ◌<◌}
use mathlib.Core.List.{List, map}
use mathlib.Core.Bool.{false}
use mathlib.Core.Path.{◌≡◌, sym, ap, ◌∙◌}
use lib.ListN.{length, take}
use Rattle.rules.specs.declared.Answer.{Answer}
use Rattle.rules.specs.Heap.{Heap, cells, kind_of, Used}
use Rattle.rules.specs.Sound.{Ready}
use Rattle.rules.specs.Release.{Work}
use Rattle.rules.specs.Refusals.{Call, is_fresh, refusal_sound}
use Rattle.rules.specs.Calls.{Result, finished, act}
use Rattle.laws.specs.Sound.Facts.{ready_facts}
use Rattle.laws.specs.Calls.Inner.{Ran, inner_done}
use Rattle.release.specs.Write.{Writable, SlotWritable, WorkFinished}

-- a root may be written with r, if r is empty or names a used cell
pub writable : {h : Heap} {to r : ℕ} → Ready h → to < 64 → ((c : ℕ) → r ≡ suc c → Used h c) → Writable h to r
writable ok small used = record { sound = ready_facts ok; small = small; used = used }

-- a slot of an object too
pub slot_writable : {h : Heap} {cell at r : ℕ} → Ready h → kind_of h cell ≡ 1 → at < 8 → ((c : ℕ) → r ≡ suc c → Used h c) → SlotWritable h cell at r
slot_writable {h} ok object small used = record { roots = h.roots; sound = ready_facts ok; object = object; small = small; used = used }

-- the tables, the list and the answer of a work are those of the call, where the call is that work
pub wrote_ran : {h g : Heap} {room l : List ℕ} {a : Answer} {call : Call} {v : Work} → Ready h → is_fresh call ≡ false → refusal_sound h call ≡ 0
    → act h call ≡ finished v → WorkFinished (cells h) v g room l a → Ran call h room g l a
unfolding finished
wrote_ran {l = l} ok other e does w =
    inner_done ok other e (w.heap ∙ sym (ap (λ (x : Result). x.heap) does))
    (w.answered ∙ sym (ap (λ (x : Result). x.answer) does))
    (ap (λ (x : Answer). x.refused) w.answered)
    (λ fits. ap (λ (x : Result). take (length x.freed) l) does ∙ w.listed fits ∙ sym (ap (λ (x : Result). map suc x.freed) does))
