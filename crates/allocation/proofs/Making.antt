-- What NEW's code writes and answers is what NEW does, or why NEW is refused.
-- Assumes nothing.
use Prim.Native.Nat.{ℕ, suc, ◌<◌}
use native.Mathlib.Omega.{arith}
use mathlib.Core.List.{List, map}
use mathlib.Core.Path.{◌≡◌, refl, ap}
use lib.ListN.{length, take}
use Rattle.std.proofs.Common.{Result, Ok, Err, ◌∙◌}
use Rattle.std.specs.Result.{IsErrAnd}
use Rattle.rules.specs.Heap.{Heap, set_kind, set_flags, set_count, set_root}
use Rattle.rules.specs.declared.Answer.{Answer}
use Rattle.rules.specs.declared.refusal.Refusal.{Refusal}
use Rattle.rules.specs.Refused.{number_of}
use Rattle.rules.specs.Sound.{Sized, Ready}
use Rattle.rules.specs.Refusals.{lowest_free, is_fresh, refusal_sound}
use Rattle.rules.specs.Refusals.Call.{NEW}
use Rattle.rules.specs.Calls.{answers, done, allocate, act}
use Rattle.laws.specs.Calls.Inner.{Ran, inner_refused, inner_done}
use Rattle.rules.proofs.Refusing.{refuses}
use Rattle.allocation.specs.Places.{Placeable, Placed, Goes, Chosen}
use Rattle.allocation.specs.declared.placing.Choice.{Choice}
use Rattle.allocation.specs.declared.shape.Shape.{Shape}

module _ (h : Heap) (r k f : ℕ) {c : ℕ} (low : c ≡ lowest_free h.kind) where
  pub new_does : {to : ℕ} {shape : Shape} {placed : Heap} → to ≡ r → (shape.kind ≡ k) × (shape.flags ≡ f) → Placed h c to shape placed
      → placed ≡ (act h (NEW r k f)).heap
  unfolding act done allocate set_root set_count set_flags set_kind
  new_does t is p = rw (← low, ← t, ← is.0, ← is.1) p

  pub new_answer : answers 0 0 0 c ≡ (act h (NEW r k f)).answer
  unfolding act done
  new_answer = rw low refl

-- NEW frees nothing: its list is empty
pub new_lists : (h : Heap) (r k f : ℕ) (room : List ℕ) → take (length (act h (NEW r k f)).freed) room ≡ map suc (act h (NEW r k f)).freed
unfolding act done
new_lists h r k f room = refl

-- a refusal of NEW's, by the law that gives its reason for the same numbers
pub new_refused : {h : Heap} {r k f : ℕ} {a : Answer} → Ready h → (why : Refusal) (r' k' f' : ℕ) → refusal_sound h (NEW r' k' f') ≡ number_of why
    → r' ≡ r → k' ≡ k → f' ≡ f → a ≡ answers (number_of why) 0 0 0
    → (room : List ℕ) → Ran (NEW r k f) h room h room a
unfolding is_fresh
new_refused ready why r' k' f' law root kind wish answer room = inner_refused ready refl (rw (← root, ← kind, ← wish) law) (refuses why) answer

-- NEW is refused before it writes
pub chose_not : (h : Heap) (r k f : ℕ) {why given : Refusal} → given ≡ why → (x : Result Choice Refusal) → IsErrAnd x (λ e. e ≡ given)
    → refusal_sound h (NEW r k f) ≡ number_of why → Chosen h r k f x
chose_not h r k f why (Ok to) is law = absurd is
chose_not h r k f why (Err e) is law = rw (is ∙ why) law

-- NEW goes, and what was chosen for the same numbers is placed
pub new_ran : {h after : Heap} {r k f r' k' f' : ℕ} {to : Choice} {a : Answer} → Ready h → Goes h r' k' f' to → r' ≡ r → k' ≡ k → f' ≡ f
    → Placed h to.cell.0 to.to.0 to.shape after → a ≡ answers 0 0 0 to.cell.0
    → (room : List ℕ) → Ran (NEW r k f) h room after room a
unfolding is_fresh
new_ran ready goes root kind wish placed answer room =
    inner_done ready refl (rw (← root, ← kind, ← wish) goes.goes)
    (new_does _ _ _ _ goes.lowest (goes.root ∙ root) (goes.shape.0 ∙ kind, goes.shape.1 ∙ wish) placed)
    (answer ∙ new_answer _ _ _ _ goes.lowest)
    (ap (λ (x : Answer). x.refused) answer)
    (λ fits. new_lists _ _ _ _ room)

module _ {h : Heap} (sized : Sized h) {r k f : ℕ} {to : Choice} (goes : Goes h r k f to) where
  -- what NEW chose stands in the tables
  pub choice_placeable : Placeable h to.cell.0 to.to.0
  choice_placeable =
      record {
        small = sized.most;
        kind_room = goes.in_use;
        flags_room = omega (arith, sized.flags, goes.in_use);
        count_room = omega (arith, sized.count, goes.in_use);
        roots_room = omega (arith, sized.roots, goes.is_root);
      }

  -- and its cell's number fits an answer
  pub choice_small : to.cell.0 < 65536
  choice_small = omega (arith, sized.most, goes.in_use)
