-- Lists of calls from a FRESH done: the tables are sound before each call and after it.
-- Assumes nothing.
use native.Mathlib.Omega.{arith}
use Rattle.std.specs.Prelude.{ℕ, List, [], ◌∷◌, ◌++◌, true, false, ◌≡◌, refl, ◌⊎◌}
use Rattle.std.proofs.Common.{sym, ◌∙◌, inl, inr}
use Rattle.std.proofs.Math.Path.{ap, subst⁻¹}
use Rattle.rules.specs.declared.Answer.{Answer}
use Rattle.rules.specs.Heap.{Heap, cells, fresh}
use Rattle.rules.specs.Check.{fits}
use Rattle.rules.specs.Refusals.{Call, is_fresh, lent_fits}
use Rattle.rules.specs.Refusals.Call.{FRESH}
use Rattle.rules.specs.Calls.{Result, refuse, done, step, step_lent, by_answer, listed, Did, room}
use Rattle.rules.specs.Asked.{Asked, obey}
use Rattle.rules.specs.Asked.Asked.{call, LINE}
use Rattle.rules.specs.Events.{Request, Event, Happened, Occurred, Trace, Finds, Between, left, Begins, event_of, run}
use Rattle.rules.specs.Events.Request.{asked, batch}
use Rattle.rules.specs.Events.Finds.{here, later}
use Rattle.rules.specs.Events.Between.{first, behind}
use Rattle.laws.specs.Lists.Tests.{split}
use Rattle.laws.specs.Sound.But.{SoundBut}
use Rattle.laws.specs.Sound.Reflect.{fits_sized}
use Rattle.laws.specs.Sound.Facts.{ready_facts}
use Rattle.laws.specs.Calls.Admission.{step_refused, step_fresh, fresh_ready, refusal_size}
use Rattle.laws.specs.Calls.Did.{lent_step, room_step}
use Rattle.laws.specs.Demand.Step.{good_lent}

-- a call that goes by the rules leaves a sound heap
pub did_sound : {h after : Heap} {lent list : List ℕ} {c : Call} {a : Answer} → SoundBut h [] → Did c h lent after list a → SoundBut after []
did_sound {h} {lent = lent} {c = c} s d = subst⁻¹ (λ (g : Heap). SoundBut g []) d.heap (good_lent h s lent c).sound

-- and so does whatever happens: what is no call changes nothing
occurred_sound : (h : Heap) (e : Event) → SoundBut h [] → Occurred h e → SoundBut e.after []
occurred_sound h e s d = go e.request d
  where
    unchanged : e.after ≡ h → SoundBut e.after []
    unchanged same = subst⁻¹ (λ (g : Heap). SoundBut g []) same s

    go : (q : Request) → Happened q h e.lent e.after e.list e.answer → SoundBut e.after []
    go (asked (call c)) d = did_sound s d
    go (asked LINE) d = unchanged d.unchanged.tables
    go (batch b) d = unchanged d.1.unchanged.tables

-- every event of the list finds a sound heap, and goes by the rules
pub found_sound : {h : Heap} (l : List Event) → SoundBut h [] → Trace h l → {before : Heap} {e : Event} → Finds h l before e → SoundBut before [] × Occurred before e
found_sound l s t here = (s, t.0)
found_sound l s t (later {h} {d = d} {l = rest} f) = found_sound rest (occurred_sound h d s t.0) t.1 f

pub between_sound : {h : Heap} (l : List Event) → SoundBut h [] → Trace h l → {g : Heap} → Between h l g → SoundBut g []
between_sound l s t first = s
between_sound l s t (behind {h} {d = d} {l = rest} b) = between_sound rest (occurred_sound h d s t.0) t.1 b

fresh_unfit : (h : Heap) → fits h ≡ false → (step h FRESH).answer.refused ≡ 1
unfolding refuse
fresh_unfit h e = ap (λ (r : Result). r.answer.refused) (step_refused h FRESH 1 (sym (refusal_size h FRESH e)) (λ w. omega arith))

-- FRESH done leaves a sound heap, whatever stood there: on tables that don't fit it is not done
pub begins_sound : {h : Heap} → Begins h → SoundBut h []
unfolding is_fresh lent_fits
begins_sound {h} b = go (split (fits b.stale))
  where
    heap : step_lent b.stale [] FRESH ≡ step b.stale FRESH
    heap = lent_step b.stale [] FRESH refl

    go : (fits b.stale ≡ true) ⊎ (fits b.stale ≡ false) → SoundBut h []
    go (inl e) =
        let f = fits_sized b.stale e in
        let at : h ≡ fresh (cells b.stale) = b.did.heap ∙ (unfold done in ap (λ (r : Result). r.heap) (heap ∙ step_fresh b.stale f)) in
        subst⁻¹ (λ (g : Heap). SoundBut g []) at (ready_facts (fresh_ready (cells b.stale) f.least f.most))
    go (inr e) =
        absurd (omega (
          arith,
          b.done,
          ap (λ (x : Answer). x.refused) b.did.answered,
          ap (λ (r : Result). r.answer.refused) heap,
          fresh_unfit b.stale e,
        ))

-- ---- the lists that the rules make

asked_happened : (h : Heap) (q : Asked) → Occurred h (event_of h q)
unfolding obey refuse listed by_answer
asked_happened h (call c) =
    let same : step h c ≡ step_lent h (room h) c = sym (room_step h c) in
    record { heap = ap (λ (r : Result). r.heap) same; freed = ap (listed (room h)) same; answered = ap (λ (r : Result). r.answer) same }
asked_happened h LINE = record { why = refl; unchanged = record { tables = refl; kept = refl; freed = refl; queued = refl; cell = refl } }

pub run_trace : (h : Heap) (l : List Asked) → Trace h (run h l)
unfolding run
run_trace h [] = tt
run_trace h (q ∷ l) = (asked_happened h q, run_trace (obey h q).heap l)

-- ---- one list behind another

pub trace-append : (h : Heap) (l m : List Event) → Trace h l → Trace (left h l) m → Trace h (l ++ m)
unfolding left
trace-append h [] m t u = u
trace-append h (e ∷ l) m t u = (t.0, trace-append e.after l m t.1 u)

pub between_append : (h g : Heap) (l m : List Event) → Between (left h l) m g → Between h (l ++ m) g
unfolding left
between_append h g [] m b = b
between_append h g (e ∷ l) m b = behind (between_append e.after g l m b)
