-- Document 02, Q-10: from a sound heap no take-off meets a count of zero, none is missing from the list, and nothing would hide one that did.
-- Assumes nothing.
use Prim.Native.Nat.{ℕ, zero, suc, ◌+◌, ◌<◌}
use Rattle.std.proofs.Common.{arith, ⊎_elim, sym, ◌∙◌, subst, get_or-set_same}
use Rattle.std.specs.Prelude.{List, [], ◌∷◌, false, ◌≡◌, refl, get_or, set}
use Rattle.std.proofs.Math.Path.{ap}
use Rattle.std.proofs.Math.ListN.{length}
use Rattle.rules.specs.declared.Answer.{Answer}
use Rattle.rules.specs.Lists.{occ, sum}
use Rattle.rules.specs.Heap.{Heap, count_of, set_count}
use Rattle.rules.specs.Release.{Work, decremented, lower, decref}
use Rattle.rules.specs.Collect.{lower_all}
use Rattle.rules.specs.Refusals.{Call, is_fresh, refusal, lent_fits, refusal_lent}
use Rattle.rules.specs.Refusals.Call.{FRESH}
use Rattle.rules.specs.Calls.{refuse, by_refusal, step_lent, Did}
use Rattle.rules.specs.Events.{Request, Happened}
use Rattle.rules.specs.Counts.{met, act_met, by_refusal_met, step_met, placed, AboveZero, Shows, CountsAboveZero}
use Rattle.laws.specs.Lists.Tests.{split}
use Rattle.laws.specs.Lists.Occ.{occ_nil}
use Rattle.laws.specs.Sound.But.{SoundBut}
use Rattle.laws.specs.Sound.Facts.{ready_facts, facts_ready}
use Rattle.laws.specs.Calls.Admission.{ready_refused}
use Rattle.laws.specs.Calls.Lent.{lent_fits_lem, lent_misfits}
use Rattle.laws.specs.Calls.Did.{did_as}
use Rattle.laws.specs.Calls.Arguments.{by_fresh}
use Rattle.laws.specs.Calls.Done.{performed}
use Rattle.laws.specs.Demand.Events.{found_sound, begins_sound}

-- ---- every call

module _ (h : Heap) (s : SoundBut h []) (lent : List ℕ) where
  -- FRESH takes nothing off, done or refused
  fresh_above : AboveZero FRESH h lent (step_lent h lent FRESH).heap (step_lent h lent FRESH).answer
  unfolding step_met
  fresh_above = record { none = go (refusal_lent h lent FRESH); all = λ n. absurd (n refl) }
    where
      go : (n : ℕ) → occ 0 (by_refusal_met h FRESH n) ≡ 0
      go zero = unfold by_refusal_met act_met in occ_nil 0
      go (suc n) = unfold by_refusal_met in occ_nil 0

  -- a call that isn't refused is lent a table that fits
  done_here : (call : Call) → refusal_lent h lent call ≡ 0 → refusal h call ≡ 0
  done_here call e =
      ⊎_elim
      (λ t. sym (lent_fits_lem h lent call t) ∙ e)
      (λ m. absurd (omega (arith, (lent_misfits h lent call m).2)))
      (split (lent_fits h lent call))

  eight_above : (call : Call) → is_fresh call ≡ false → AboveZero call h lent (step_lent h lent call).heap (step_lent h lent call).answer
  unfolding step_lent step_met by_refusal by_refusal_met refuse
  eight_above call f = record { none = (go (refusal_lent h lent call) refl).0; all = λ n. (go (refusal_lent h lent call) refl).1 }
    where
      -- by the number that it is refused with, 0 for done
      go : (n : ℕ) → refusal_lent h lent call ≡ n → (occ 0 (by_refusal_met h call n) ≡ 0)
          × ((by_refusal h call n).answer.refused ≡ 0
          → sum (by_refusal h call n).heap.count + length (by_refusal_met h call n) ≡ sum h.count + (by_refusal h call n).answer.queued + placed h call)
      go zero e =
          let p = performed h s call f (sym (ready_refused h call (facts_ready s) f) ∙ done_here call e) in
          let noted = p.outcome.noted in
          (noted.none, λ d. omega (arith, noted.balance, ap (λ (g : Heap). sum g.count) p.heap, p.queued))
      go (suc n) e = (occ_nil 0, λ d. absurd (omega (arith, d)))

  above_zero : (call : Call) → AboveZero call h lent (step_lent h lent call).heap (step_lent h lent call).answer
  above_zero = by_fresh fresh_above eight_above

did_above : {call : Call} {before after : Heap} {lent list : List ℕ} {answer : Answer} → Did call before lent after list answer → SoundBut before []
    → AboveZero call before lent after answer
did_above {call} {before} {lent = lent} d s = did_as (λ g l a. AboveZero call before lent g a) d (above_zero before s lent call)

-- ---- a count met at zero

shows : (w : Work) (c : ℕ) → c < length w.heap.count → count_of w.heap c ≡ 0 → Shows w c
unfolding met decremented lower decref lower_all set_count
shows w c stands e =
    let at : get_or (set w.heap.count c 65536) c 0 ≡ 65536 = get_or-set_same w.heap.count c 65536 0 stands in
    record {
      noted = ap (λ (n : ℕ). n ∷ []) e;
      cascade = omega (arith, at, ap (λ (n : ℕ). count_of (lower w c (decremented n)).heap c) e);
      sweep = omega (arith, at, ap (λ (n : ℕ). get_or (set w.heap.count c (decremented n)) c 0) e);
    }

pub counts_above_zero : CountsAboveZero
counts_above_zero = record {
  each = λ call before lent after list answer d r. did_above d (ready_facts r);
  always = λ h b l t before e f c is.
      let x = found_sound l (begins_sound b) t f in
      did_above (subst (λ (q : Request). Happened q before e.lent e.after e.list e.answer) is x.1) x.0;
  shows = shows;
}
