-- Laws of the call that four numbers name, and of what it does. Assumes nothing.
use Rattle.std.specs.Prelude.{ℕ, zero, suc, ◌≤◌, ◌<◌, List, ◌≡◌, ◌≢◌, ◌⊎◌, Bool, true, false, cond}
use Rattle.std.proofs.Common.{arith, sym, ap, ◌∙◌, subst, inl, inr}
use Rattle.std.proofs.Math.Path.{refl}
use Rattle.std.proofs.Math.ListN.{get_or-eq_default}
use Rattle.rules.specs.declared.Answer.{Answer}
use Rattle.rules.specs.Heap.{Heap}
use Rattle.rules.specs.Refusals.{Call, is_fresh}
use Rattle.rules.specs.Refusals.Call.{NEW, CLEAR, COPY, LOAD, STORE, COLLECT, START, FINISH}
use Rattle.rules.specs.Calls.{Result, answers, refuse, step}
use Rattle.rules.specs.Asked.{Asked, uses, unused_zero, calls_by_number, call_numbered, call_of, is_call, obey, Obeyed}
use Rattle.rules.specs.Asked.Asked.{call, LINE}
use Rattle.laws.specs.Lists.Tests.{clash}
use Rattle.laws.specs.Calls.Admission.{admission, not_admitted, step_refused}
use Rattle.laws.specs.Calls.Inner.{Ran}

-- a number is one of 0 to 8, or above
by_number : (P : ℕ → Type 0) → P 0 → P 1 → P 2 → P 3 → P 4 → P 5 → P 6 → P 7 → P 8
    → ((n : ℕ) → P (suc (suc (suc (suc (suc (suc (suc (suc (suc n)))))))))) → (n : ℕ) → P n
by_number P a b c d e f g h i j zero = a
by_number P a b c d e f g h i j (suc zero) = b
by_number P a b c d e f g h i j (suc (suc zero)) = c
by_number P a b c d e f g h i j (suc (suc (suc zero))) = d
by_number P a b c d e f g h i j (suc (suc (suc (suc zero)))) = e
by_number P a b c d e f g h i j (suc (suc (suc (suc (suc zero))))) = f
by_number P a b c d e f g h i j (suc (suc (suc (suc (suc (suc zero)))))) = g
by_number P a b c d e f g h i j (suc (suc (suc (suc (suc (suc (suc zero))))))) = h
by_number P a b c d e f g h i j (suc (suc (suc (suc (suc (suc (suc (suc zero)))))))) = i
by_number P a b c d e f g h i j (suc (suc (suc (suc (suc (suc (suc (suc (suc n))))))))) = j n

pub uses_three : (n : ℕ) → ((n ≡ 6) ⊎ (n ≡ 8) → ⊥) → ((n ≡ 2) ⊎ (n ≡ 7) → ⊥) → (n ≡ 3 → ⊥) → uses n ≡ 3
unfolding uses
uses_three =
    by_number (λ n. ((n ≡ 6) ⊎ (n ≡ 8) → ⊥) → ((n ≡ 2) ⊎ (n ≡ 7) → ⊥) → (n ≡ 3 → ⊥) → uses n ≡ 3)
    (λ f g h. refl) (λ f g h. refl) (λ f g h. absurd (g (inl refl))) (λ f g h. absurd (h refl)) (λ f g h. refl) (λ f g h. refl)
    (λ f g h. absurd (f (inl refl))) (λ f g h. absurd (g (inr refl))) (λ f g h. absurd (f (inr refl))) (λ n f g h. refl)

none_numbered : (n x y z : ℕ) → 9 ≤ n → call_numbered n x y z ≡ LINE
unfolding call_numbered
none_numbered n x y z h = get_or-eq_default (calls_by_number x y z) LINE h

pub call_unused : (n x y z : ℕ) → unused_zero (uses n) x y z ≡ false → call_of n x y z ≡ LINE
unfolding call_of
call_unused n x y z h = rw h

call_used : (n x y z : ℕ) → unused_zero (uses n) x y z ≡ true → call_of n x y z ≡ call_numbered n x y z
unfolding call_of
call_used n x y z h = rw h refl

-- none of the numbers of calls
pub numbered_other : (n x y z : ℕ) → 6 ≤ n → (n ≡ 6 → ⊥) → (n ≡ 7 → ⊥) → (n ≡ 8 → ⊥) → call_numbered n x y z ≡ LINE
numbered_other n x y z l a b c = none_numbered n x y z (omega arith)

-- a call that was done
obeyed_call : (h k : Heap) (q : Asked) (c : Call) (a : Answer) {room list : List ℕ} → q ≡ call c → Ran c h room k list a → Obeyed q h k a
unfolding obey
obeyed_call h k q c a e r = rw e (record { heap = r.heap; answered = r.answered })

pub obeyed_line : (h : Heap) (q : Asked) (a : Answer) → q ≡ LINE → a ≡ answers 11 0 0 0 → Obeyed q h h a
unfolding obey refuse
obeyed_line h q a e w = rw e (record { heap = refl; answered = w })

-- ---- the numbers of the call are those that are asked by

-- the calls by their numbers
module _ (n x y z : ℕ) {h k : Heap} {a : Answer} {room list : List ℕ} where
  pub obeyed_new : {u v w : ℕ} → Ran (NEW u v w) h room k list a → n ≡ 1 → x ≡ u → y ≡ v → z ≡ w → Obeyed (call_numbered n x y z) h k a
  unfolding call_numbered
  obeyed_new r e f g i = obeyed_call h k _ _ a (λ j. call_numbered (e j) (f j) (g j) (i j)) r

  pub obeyed_clear : {u : ℕ} → Ran (CLEAR u) h room k list a → n ≡ 2 → x ≡ u → Obeyed (call_numbered n x y z) h k a
  unfolding call_numbered
  obeyed_clear r e f = obeyed_call h k _ _ a (λ j. call_numbered (e j) (f j) y z) r

  pub obeyed_copy : {u v : ℕ} → Ran (COPY u v) h room k list a → n ≡ 3 → x ≡ u → y ≡ v → Obeyed (call_numbered n x y z) h k a
  unfolding call_numbered
  obeyed_copy r e f g = obeyed_call h k _ _ a (λ j. call_numbered (e j) (f j) (g j) z) r

  pub obeyed_load : {u v w : ℕ} → Ran (LOAD u v w) h room k list a → n ≡ 4 → x ≡ u → y ≡ v → z ≡ w → Obeyed (call_numbered n x y z) h k a
  unfolding call_numbered
  obeyed_load r e f g i = obeyed_call h k _ _ a (λ j. call_numbered (e j) (f j) (g j) (i j)) r

  pub obeyed_store : {u v w : ℕ} → Ran (STORE u v w) h room k list a → n ≡ 5 → x ≡ u → y ≡ v → z ≡ w → Obeyed (call_numbered n x y z) h k a
  unfolding call_numbered
  obeyed_store r e f g i = obeyed_call h k _ _ a (λ j. call_numbered (e j) (f j) (g j) (i j)) r

  pub obeyed_collect : Ran COLLECT h room k list a → n ≡ 6 → Obeyed (call_numbered n x y z) h k a
  unfolding call_numbered
  obeyed_collect r e = obeyed_call h k _ _ a (λ j. call_numbered (e j) x y z) r

  pub obeyed_start : {u : ℕ} → Ran (START u) h room k list a → n ≡ 7 → x ≡ u → Obeyed (call_numbered n x y z) h k a
  unfolding call_numbered
  obeyed_start r e f = obeyed_call h k _ _ a (λ j. call_numbered (e j) (f j) y z) r

  pub obeyed_finish : Ran FINISH h room k list a → n ≡ 8 → Obeyed (call_numbered n x y z) h k a
  unfolding call_numbered
  obeyed_finish r e = obeyed_call h k _ _ a (λ j. call_numbered (e j) x y z) r

-- the test of the arguments
pub used_numbers : {n x y z : ℕ} (m u v w : ℕ) → unused_zero (uses n) x y z ≡ true → n ≡ m → x ≡ u → y ≡ v → z ≡ w → unused_zero (uses m) u v w ≡ true
used_numbers m u v w t e f g i = sym (λ j. unused_zero (uses (e j)) (f j) (g j) (i j)) ∙ t

-- the call with this number, after the test
pub obeyed_used : {n x y z : ℕ} {h k : Heap} {a : Answer} (m u v w : ℕ) → unused_zero (uses m) u v w ≡ true → Obeyed (call_numbered n x y z) h k a
    → n ≡ m → x ≡ u → y ≡ v → z ≡ w → Obeyed (call_of m u v w) h k a
obeyed_used {h = h} {k = k} {a = a} m u v w t o e f g i =
    rw (call_used m u v w t) (subst (λ (q : Asked). Obeyed q h k a) (λ j. call_numbered (e j) (f j) (g j) (i j)) o)

-- the call that four numbers name
pub obeyed_numbers : {n x y z : ℕ} {h k : Heap} {a : Answer} (m u v w : ℕ) → Obeyed (call_of n x y z) h k a → n ≡ m → x ≡ u → y ≡ v → z ≡ w
    → Obeyed (call_of m u v w) h k a
obeyed_numbers {h = h} {k = k} {a = a} m u v w o e f g i = subst (λ (q : Asked). Obeyed q h k a) (λ j. call_of (e j) (f j) (g j) (i j)) o

-- ---- whether a call is named

pub unused_names_none : (n x y z : ℕ) → unused_zero (uses n) x y z ≡ false → false ≡ is_call (call_of n x y z)
unfolding is_call
unused_names_none n x y z h = rw (call_unused n x y z h) refl

pub nought_names_none : (n x y z : ℕ) → unused_zero (uses n) x y z ≡ true → n ≡ 0 → false ≡ is_call (call_of n x y z)
unfolding is_call call_numbered
nought_names_none n x y z h e = rw (call_used n x y z h, e) refl

pub above_names_none : (n x y z : ℕ) → unused_zero (uses n) x y z ≡ true → 8 < n → false ≡ is_call (call_of n x y z)
unfolding is_call
above_names_none n x y z h e = rw (call_used n x y z h, none_numbered n x y z e) refl

numbered_call : (n x y z : ℕ) → 1 ≤ n → n ≤ 8 → true ≡ is_call (call_numbered n x y z)
unfolding call_numbered is_call
numbered_call n x y z =
    by_number (λ m. 1 ≤ m → m ≤ 8 → true ≡ is_call (call_numbered m x y z))
    (λ h k. absurd (omega arith)) (λ h k. refl) (λ h k. refl) (λ h k. refl) (λ h k. refl) (λ h k. refl) (λ h k. refl) (λ h k. refl) (λ h k. refl)
    (λ m h k. absurd (omega arith)) n

pub names_call : (n x y z : ℕ) → unused_zero (uses n) x y z ≡ true → 1 ≤ n → n ≤ 8 → true ≡ is_call (call_of n x y z)
names_call n x y z h l m = rw (call_used n x y z h) (numbered_call n x y z l m)

-- ---- FRESH is asked for by no four numbers

unfoldable pub asks_fresh : Asked → Bool
asks_fresh (call c) = is_fresh c
asks_fresh LINE = false

numbered_never_fresh : (n x y z : ℕ) → asks_fresh (call_numbered n x y z) ≡ false
unfolding call_numbered asks_fresh is_fresh
numbered_never_fresh n x y z =
    by_number (λ m. asks_fresh (call_numbered m x y z) ≡ false) refl refl refl refl refl refl refl refl refl (λ m. refl) n

pub never_fresh : (n x y z : ℕ) → asks_fresh (call_of n x y z) ≡ false
unfolding call_of
never_fresh n x y z = go (unused_zero (uses n) x y z)
  where
    go : (b : Bool) → asks_fresh (cond b (call_numbered n x y z) LINE) ≡ false
    go true = numbered_never_fresh n x y z
    go false = unfold asks_fresh in refl

-- ---- on tables that are not admitted

-- a call is refused by the number that `admission` gives
pub obeyed_refused : (q : Asked) {h : Heap} {why : ℕ} {a : Answer} → asks_fresh q ≡ false → is_call q ≡ true → why ≡ admission h → why ≢ 0 → a ≡ answers why 0 0 0
    → Obeyed q h h a
unfolding asks_fresh is_call obey refuse
obeyed_refused (call c) {h} {why} {a} f n e some w =
    let s : step h c ≡ refuse h why = step_refused h c why (e ∙ not_admitted h c f (λ z. some (e ∙ z))) some in
    record { heap = sym (ap (λ (x : Result). x.heap) s); answered = w ∙ sym (ap (λ (x : Result). x.answer) s) }
obeyed_refused LINE f n e some w = absurd (clash n refl)

-- and what is no call stays LINE
pub no_call_lem : (q : Asked) → is_call q ≡ false → q ≡ LINE
unfolding is_call
no_call_lem (call c) e = absurd (clash refl e)
no_call_lem LINE e = refl
