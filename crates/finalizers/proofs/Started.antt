-- What START's code writes and answers is what START does, or why it is refused; the count of the queue's head can rise.
-- Assumes nothing.
use Prim.Native.Nat.{ℕ, suc, ◌+◌, ◌-◌, ◌≤◌}
use native.Mathlib.Numerals.{add-one}
use native.Mathlib.Omega.{arith}
use mathlib.Core.List.{List, map}
use mathlib.Core.Path.{◌≡◌, refl, ap, ◌∙◌}
use lib.ListN.{length, take, set}
use Rattle.std.proofs.Common.{Result, Ok, Err}
use Rattle.std.specs.Result.{IsErrAnd}
use Rattle.numbers.specs.declared.below.Below.{Below}
use Rattle.rules.specs.declared.Answer.{Answer}
use Rattle.rules.specs.declared.refusal.Refusal.{Refusal}
use Rattle.rules.specs.Refused.{number_of}
use Rattle.rules.specs.Refusals.{is_fresh, refusal_sound}
use Rattle.rules.specs.Heap.{Heap, tables, queued, kind_of, queue_at, set_root, set_running}
use Rattle.rules.specs.Sound.{Ready}
use Rattle.rules.specs.Release.{raise, incref}
use Rattle.rules.specs.Refusals.Call.{START}
use Rattle.rules.specs.Calls.{answers, done, start_run, act}
use Rattle.laws.specs.Sound.Facts.{ready_facts}
use Rattle.laws.specs.Calls.Admission.{tables_eq}
use Rattle.laws.specs.Calls.Finish.{head_object}
use Rattle.laws.specs.Calls.Inner.{Ran, inner_refused, inner_done}
use Rattle.rules.proofs.Refusing.{refuses}
use Rattle.finalizers.specs.Start.{Chosen}
use Rattle.release.specs.Release.{Raisable}
use Rattle.release.proofs.Writing.{raisable}

module _ (h : Heap) where
  -- the queue's head
  pub head_raisable : Ready h → 1 ≤ queued h → Raisable h.count (queue_at h 0)
  head_raisable ok some =
      raisable h (queue_at h 0) (ready_facts ok) (λ c e.
      let same : queue_at h 0 - 1 ≡ c = omega arith in omega (arith, head_object h (ready_facts ok) some, ap (kind_of h) same))

  module _ (r : ℕ) where
    pub start_does : {to : ℕ} {count' roots' control' : List ℕ} → to ≡ r → count' ≡ raise h.count (queue_at h 0) → roots' ≡ set h.roots to (queue_at h 0)
        → control' ≡ set h.control 1 (to + 1)
        → tables h.kind h.flags count' h.slots roots' h.queue control' ≡ (act h (START r)).heap
    unfolding act done start_run set_running set_root incref
    start_does {to} t n e w = rw (← t) (tables_eq refl refl n refl e refl (w ∙ ap (λ (x : ℕ). set h.control 1 x) (add-one to)))

    pub start_answer : answers 0 0 0 0 ≡ (act h (START r)).answer
    unfolding act done
    start_answer = refl

    -- no cell is freed
    pub start_lists : (room : List ℕ) → take (length (act h (START r)).freed) room ≡ map suc (act h (START r)).freed
    unfolding act done
    start_lists room = refl

-- a refusal of START's, by the law that gives its reason for the same root
pub start_refused : {h : Heap} {r : ℕ} {a : Answer} → Ready h → (why : Refusal) (r' : ℕ) → refusal_sound h (START r') ≡ number_of why → r' ≡ r
    → a ≡ answers (number_of why) 0 0 0 → (room : List ℕ) → Ran (START r) h room h room a
unfolding is_fresh
start_refused ready why r' law root answer room = inner_refused ready refl (rw (← root) law) (refuses why) answer

module _ (h : Heap) (r : ℕ) where
  -- START is refused before it writes
  pub chose_not : {why given : Refusal} → given ≡ why → (x : Result (Below 64) Refusal) → IsErrAnd x (λ e. e ≡ given)
      → refusal_sound h (START r) ≡ number_of why → Chosen h r x
  chose_not why (Ok to) is law = absurd is
  chose_not why (Err e) is law = rw (is ∙ why) law

  -- START goes, and the head's count can rise
  pub goes_raisable : {to : Below 64} → Ready h → Chosen h r (Ok to) → Raisable h.count (queue_at h 0)
  goes_raisable ready goes = head_raisable h ready goes.2

  -- and then it is done, for the same root
  pub start_ran : {r' at : ℕ} {count' roots' control' : List ℕ} {to : Below 64} {a : Answer} → Ready h → Chosen h r (Ok to) → r ≡ r' → at ≡ to.0
      → count' ≡ raise h.count (queue_at h 0) → roots' ≡ set h.roots at (queue_at h 0) → control' ≡ set h.control 1 (at + 1) → a ≡ answers 0 0 0 0
      → (room : List ℕ) → Ran (START r') h room (tables h.kind h.flags count' h.slots roots' h.queue control') room a
  unfolding is_fresh
  start_ran ready goes root at count roots control answer room =
      inner_done ready refl (rw (← root) goes.0) (start_does _ _ (at ∙ goes.1 ∙ root) count roots control) (answer ∙ start_answer _ _) (ap (λ (x : Answer). x.refused) answer)
      (λ fits. start_lists _ _ room)
