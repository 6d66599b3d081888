-- Demand 3: every list of calls from a fresh heap satisfies the claim.
-- Assumes nothing.
use Rattle.std.specs.Prelude.{ℕ, List, [], ◌≡◌}
use Rattle.std.proofs.Common.{arith, ◌∙◌, ap, subst}
use Rattle.std.proofs.Math.Path.{subst⁻¹}
use mathlib.Core.Logic.Iff.{trans}
use Rattle.rules.specs.declared.Answer.{Answer}
use Rattle.rules.specs.Heap.{Heap, kind_of}
use Rattle.rules.specs.Reach.{Exact}
use Rattle.rules.specs.Refusals.{Call}
use Rattle.rules.specs.Collect.{collect}
use Rattle.rules.specs.Calls.{Did}
use Rattle.rules.specs.Asked.Asked.{call, LINE}
use Rattle.rules.specs.Events.{Request, Event, Happened, Occurred, Trace}
use Rattle.rules.specs.Events.Request.{asked, batch}
use Rattle.rules.specs.Demand3.{stood, stood_for, SafeBy, Safe, Claim, Demand3}
use Rattle.laws.specs.Sound.But.{SoundBut}
use Rattle.laws.specs.Reach.Safe.{Kept, frees_unreached}
use Rattle.laws.specs.Collect.Swept.{collect_exact}
use Rattle.laws.specs.Calls.Did.{did_as}
use Rattle.laws.specs.Demand.Step.{good_lent}
use Rattle.laws.specs.Demand.Events.{did_sound, found_sound, between_sound, begins_sound}
use Rattle.laws.specs.Demand.Sweep.{swept_heap, swept_as, counted_at, quiet_at, answered_at}

did_safe : (h : Heap) (c : Call) {lent list : List ℕ} {after : Heap} {a : Answer} → SoundBut h [] → Did c h lent after list a → SafeBy h after (stood h c a.refused)
did_safe h c {lent = lent} {after = after} {a = a} s d =
    let kept : Kept after (stood h c a.refused) = did_as (λ g l a. Kept g (stood h c a.refused)) d (good_lent h s lent c).kept in
    frees_unreached h after (stood h c a.refused) (did_sound s d) kept

-- what changes no table frees no cell
same_safe : {h after : Heap} (slots : List ℕ) → after ≡ h → SafeBy h after slots
same_safe slots e c f = absurd (omega (arith, f.used, f.free, ap (λ (g : Heap). kind_of g c) e))

occurred_safe : (h : Heap) (e : Event) → SoundBut h [] → Occurred h e → Safe h e
occurred_safe h e s d = go e.request d
  where
    go : (q : Request) → Happened q h e.lent e.after e.list e.answer → SafeBy h e.after (stood_for h q e.answer.refused)
    go (asked (call c)) d = did_safe h c s d
    go (asked LINE) d = same_safe _ d.unchanged.tables
    go (batch b) d = same_safe _ d.1.unchanged.tables

claim : (h : Heap) → SoundBut h [] → (l : List Event) → Trace h l → Claim h l
claim h s l t = record {
  safe = λ before e f. let x = found_sound l s t f in occurred_safe before e x.0 x.1;
  swept = λ before e f c.
      let x = found_sound l s t f in
      let did = subst (λ (q : Request). Happened q before e.lent e.after e.list e.answer) c.collects x.1 in
      let at : e.after ≡ (collect before).heap = (swept_as before x.0 did c.done).0 ∙ swept_heap before x.0 in
      subst⁻¹ (λ (g : Heap). Exact g) at (collect_exact before x.0);
  counted = λ g b. counted_at g (between_sound l s t b);
  quiet = λ g b. let x = between_sound l s t b in trans (quiet_at g x) (counted_at g x);
  answered = λ g b. let x = between_sound l s t b in trans (answered_at g x) (counted_at g x);
}

pub demand_3 : Demand3
demand_3 h b l t = claim h (begins_sound b) l t
