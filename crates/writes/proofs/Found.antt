-- A number or an object that a call names: it was found, or the call is refused.
-- Assumes nothing.
use Prim.Native.Nat.{ℕ, suc, ◌≤◌, ◌<◌}
use native.Mathlib.Omega.{arith}
use mathlib.Core.List.{List}
use mathlib.Core.Bool.{false}
use mathlib.Core.Logic.{◌≢◌, inl, inr}
use mathlib.Core.Path.{◌≡◌, refl, sym, ap, ◌∙◌}
use Rattle.std.specs.Prelude.{Option, Some, None, Result, Ok, Err, ok_or, IsErrAnd}
use Rattle.rules.proofs.Refusing.{refuses}
use Rattle.numbers.specs.declared.below.Below.{Below}
use Rattle.numbers.specs.Numbers.{AsBelow}
use Rattle.rules.specs.declared.Answer.{Answer}
use Rattle.rules.specs.declared.refusal.Refusal.{Refusal}
use Rattle.rules.specs.declared.refusal.Refusal.TheVariants as Is
use Rattle.rules.specs.Refused.{number_of, answer_of}
use Rattle.rules.specs.Heap.{Heap, cells, kind_of, root_at}
use Rattle.rules.specs.Sound.{Ready}
use Rattle.rules.specs.Refusals.{Call, is_fresh, refusal_sound, lowest, conditions}
use Rattle.rules.specs.Calls.{answers, held}
use Rattle.laws.specs.Calls.Arguments.{by_fresh}
use Rattle.laws.specs.Calls.Inner.{Ran, inner_refused}
use Rattle.writes.specs.Objects.{AsObject}

-- ---- a call that is refused

-- FRESH is not refused on a sound heap
not_fresh : (h : Heap) (call : Call) → refusal_sound h call ≢ 0 → is_fresh call ≡ false
unfolding refusal_sound lowest conditions
not_fresh h = by_fresh {P = λ call. refusal_sound h call ≢ 0 → is_fresh call ≡ false} (λ some. absurd (some refl)) (λ call other some. other)

-- the call answers why it is refused, and changes nothing
refused_ran : {h : Heap} {room : List ℕ} {call : Call} (why : Refusal) (result : Result Answer Refusal) → Ready h
    → refusal_sound h call ≡ number_of why → IsErrAnd result (λ e. e ≡ why) → Ran call h room h room (answer_of result)
refused_ran why (Ok a) ok some is = absurd is
refused_ran {h} {call = call} why (Err e) ok some is =
    inner_refused ok (not_fresh h call (rw some (refuses why))) some (refuses why) (ap (λ (w : Refusal). answers (number_of w) 0 0 0) is)

-- refused for a number, which was looked for and not found
pub number_refused : {h : Heap} {room : List ℕ} {call : Call} {N : ℕ} {found : Option (Below N)} {why : Refusal} (result : Result Answer Refusal)
    → Ready h → refusal_sound h call ≡ 3 → found ≡ None → Err why ≡ ok_or found Is.Number → IsErrAnd result (λ e. e ≡ why)
    → Ran call h room h room (answer_of result)
number_refused {why = why} result ok high none e is =
    let number : why ≡ Is.Number = cc (rw none at e) in
    refused_ran Is.Number result ok high (rw number at is)

-- refused for a root that holds no object
pub object_refused : {h : Heap} {room : List ℕ} {call : Call} (o : ℕ) (why : Refusal) (result : Result Answer Refusal) → Ready h
    → (root_at h o ≡ 0 → refusal_sound h call ≡ 4) → (root_at h o ≢ 0 → kind_of h (held h o) ≢ 1 → refusal_sound h call ≡ 5)
    → AsObject h o (Err why) → IsErrAnd result (λ e. e ≡ why) → Ran call h room h room (answer_of result)
object_refused o why result ok empty kind (inl e) is = refused_ran why result ok (empty e.0 ∙ sym e.1) is
object_refused o why result ok empty kind (inr e) is = refused_ran why result ok (kind e.0 e.1 ∙ sym e.2) is

-- ---- what was found

-- a number that is none is not below its limit
pub outside : {N x limit : ℕ} {found : Option (Below N)} → AsBelow x limit found → found ≡ None → limit ≤ x
outside claim none = rw none at claim

-- any other is the one that was named
pub inside : {N x limit : ℕ} {found : Option (Below N)} {n : Below N} → AsBelow x limit found → found ≡ Some n → (n.0 ≡ x) × (x < limit)
inside claim some = rw some at claim

-- the object that a root was found to hold
pub found_object : (h : Heap) (o : ℕ) {cell : ℕ} → (root_at h o ≡ suc cell) × (kind_of h cell ≡ 1) × (cell < cells h)
    → (root_at h o ≢ 0) × (kind_of h (held h o) ≡ 1) × (held h o ≡ cell)
found_object h o {cell} found =
    let its : held h o ≡ cell = omega (arith, found.0) in
    (λ z. omega (arith, found.0), ap (kind_of h) its ∙ found.1, its)
