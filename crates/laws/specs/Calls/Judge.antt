-- The rules' tests and the lines of document 01's table agree: a refusal's number is one that the table gives (`judge`), and where the table gives
-- one the call is refused by that or a lower one (`bound`).
-- Assumes nothing.
use Rattle.std.specs.Prelude.{ℕ, suc, ◌-◌, ◌≤◌, ◌<◌, List, [], ◌∷◌, true, false, not, ◌&&◌, ◌⊎◌, ◌≢◌, ◌≡◌, refl, ltb, get_or}
use Rattle.std.proofs.Math.Decide.{ℕ_discrete, dec_lt}
use Rattle.std.proofs.Common.{arith, inl, inr, ⊎_elim, ap, eqb-true, eq-eqb, ne_eqb, ltb-true, ltb-false, lt-ltb}
use Rattle.std.proofs.Math.Logic.{by_cases}
use Rattle.std.proofs.lemmas.Bool.{eqb-false, not-true, not-false}
use Rattle.rules.specs.Heap.{Heap, cells, kind_of, root_at}
use Rattle.rules.specs.Sound.{Ready}
use Rattle.rules.specs.Check.{fits, sound}
use Rattle.rules.specs.Refusals.{Call, Reason, number, root_numbers, slot_numbers, Why, ◌when◌, lowest_free, new_ok, object_ok, conditions, is_fresh, refusal, lent_fits, refusal_lent}
use Rattle.rules.specs.Refusals.Call.{FRESH, NEW, CLEAR, COPY, LOAD, STORE, COLLECT, START, FINISH}
use Rattle.rules.specs.Refusals.Reason.{SIZE, DAMAGED, NUMBER}
use Rattle.rules.specs.Refusals.Why.{unsized, lent_size, unsound, high_root, high_slot, bad_kind, bad_wish, not_object, load_empty, store_empty, load_kind, store_kind}
use Rattle.rules.specs.Refusals.Why.{new_taken, start_taken, full, busy, none, idle}
use Rattle.laws.specs.Lists.Tests.{split, clash, refuted, and_join, and_left, and_right}
use Rattle.laws.specs.Sound.Reflect.{fits_sized, sized_fits, unfit, sound_of, of_sound}
use Rattle.laws.specs.Reach.Used.{root_used}
use Rattle.laws.specs.Sound.Facts.{ready_facts, tests_ready}
use Rattle.laws.specs.Calls.Lowest.{lowest_used, lowest_none}
use Rattle.laws.specs.Calls.Arguments.{below_two, below_three, high_two, high_three, one_high, two_high, new_ok_of, of_new_ok, object_ok_not, not_object_ok, fresh_only, not_fresh}
use Rattle.laws.specs.Calls.Conditions.{number_some, Judges, Verdict, judged, Given, lowest_given}
use Rattle.laws.specs.Calls.Lent.{lent_fits_lem, lent_misfits, fitting}

-- ---- what the tests find, the table says

-- what a root of a sound heap holds is a string or buffer where it is no object
plain_object : (h : Heap) → Ready h → (o : ℕ) → root_at h o ≢ 0 → object_ok h (root_at h o) ≡ false → (c : ℕ) × (root_at h o ≡ suc c) × ((kind_of h c ≡ 2) ⊎ (kind_of h c ≡ 3))
plain_object h r o n f =
    let c : ℕ = root_at h o - 1 in
    let e : root_at h o ≡ suc c = omega arith in
    let some : 1 ≤ kind_of h c = root_used h [] (ready_facts r) o c e in
    let other : kind_of h c ≢ 1 = object_ok_not h (root_at h o) c e f in
    (c, e, by_cases (ℕ_discrete (kind_of h c) 2) inl (λ d. inr (omega (arith, (ready_facts r).shaped.kinds c))))

-- NEW's numbers fail their test: one of them is out of its range
new_number : (h : Heap) (lent : List ℕ) (r k f : ℕ) → (ltb r 64 && new_ok k f) ≡ false → Why NUMBER h lent (NEW r k f)
unfolding root_numbers
new_number h lent r k f t = elim (dec_lt 63 r) [
  | yes a ↦ high_root 0 a
  | no a ↦ elim (ℕ_discrete k 0) [
    | yes z ↦ bad_kind (inl z)
    | no z ↦ elim (dec_lt 3 k) [
      | yes m ↦ bad_kind (inr m)
      | no m ↦ elim (dec_lt 1 f) [
        | yes w ↦ bad_wish w
        | no w ↦
            let passed : (f ≡ 1 → k ≡ 1) → Why NUMBER h lent (NEW r k f) = λ o. clash (and_join (lt-ltb r 64 (omega arith)) (of_new_ok k f (omega arith) (omega arith) (omega arith) o)) t in
            elim (ℕ_discrete k 1) [
              | yes o ↦ passed (λ e. o)
              | no o ↦ by_cases (ℕ_discrete f 1) (λ e. not_object e o) (λ n. passed (λ e. absurd (n e)))
            ]
      ]
    ]
  ]
]

-- the conditions of each call, one after the other
judges : (h : Heap) (lent : List ℕ) (call : Call) → (is_fresh call ≡ false → Ready h) → Judges (λ k. Why k h lent call) (conditions h call)
unfolding conditions is_fresh root_numbers slot_numbers
judges h lent FRESH s = tt
judges h lent (NEW r k f) s = (
  λ t. new_number h lent r k f (not-true _ t),
  λ a. (
    λ t. new_taken (eqb-false _ _ (not-true _ t)),
    λ b. (λ t. full {h = h} (λ c l. lowest_used h.kind c (omega (arith, eqb-true (lowest_free h.kind) (cells h) t))), λ d. tt),
  ),
)
judges h lent (CLEAR r) s = (λ t. high_root 0 (ltb-false r 64 (not-true _ t)), λ a. tt)
judges h lent (COPY to from) s = (λ t. ⊎_elim (λ m. high_root 0 m) (λ m. high_root 1 m) (high_two to 64 from 64 (not-true _ t)), λ a. tt)
judges h lent (LOAD to o s) r = (
  λ t. ⊎_elim (λ m. high_root 0 m) (⊎_elim (λ m. high_root 1 m) (λ m. high_slot 0 m)) (high_three to 64 o 64 s 8 (not-true _ t)),
  λ a. (
    λ t. load_empty (eqb-true _ _ t),
    λ b. (λ t. let p = plain_object h (r refl) o (eqb-false _ _ b) (not-true _ t) in load_kind p.1 p.2, λ d. tt),
  ),
)
judges h lent (STORE o s from) r = (
  λ t. ⊎_elim (λ m. high_root 0 m) (⊎_elim (λ m. high_slot 0 m) (λ m. high_root 1 m)) (high_three o 64 s 8 from 64 (not-true _ t)),
  λ a. (
    λ t. store_empty (eqb-true _ _ t),
    λ b. (λ t. let p = plain_object h (r refl) o (eqb-false _ _ b) (not-true _ t) in store_kind p.1 p.2, λ d. tt),
  ),
)
judges h lent COLLECT s = tt
judges h lent (START r) s = (
  λ t. high_root 0 (ltb-false r 64 (not-true _ t)),
  λ a. (
    λ t. start_taken (eqb-false _ _ (not-true _ t)),
    λ b. (
      λ t. busy (eqb-false _ _ (not-true _ t)),
      λ d. (λ t. none (eqb-true _ _ t), λ e. tt),
    ),
  ),
)
judges h lent FINISH s = (λ t. idle (eqb-true _ _ t), λ a. tt)

-- a refusal's number is one that the table gives
heap_judge : (h : Heap) (lent : List ℕ) (call : Call) → Verdict (λ k. Why k h lent call) (refusal h call)
unfolding refusal
heap_judge h lent call =
    judged (λ k. Why k h lent call) _ (
      λ t. unsized (λ z. clash (sized_fits h z) (not-true _ t)),
      λ a. (
        λ t. let z = fits_sized h (not-false _ a) in
            unsound
            (not_fresh call (not-true _ (and_left (not (is_fresh call)) (not (sound h)) t)))
            (λ s. clash (of_sound h z s) (not-true _ (and_right (not (is_fresh call)) (not (sound h)) t))),
        λ b. judges h lent call (λ f. tests_ready (not-false _ a) (not-false _ (rw f at b))),
      ),
    )

pub judge : (h : Heap) (lent : List ℕ) (call : Call) → Verdict (λ k. Why k h lent call) (refusal_lent h lent call)
unfolding number
judge h lent call =
    ⊎_elim
    (λ t. rw (lent_fits_lem h lent call t) (heap_judge h lent call))
    (λ f. let m = lent_misfits h lent call f in rw m.2 (inr (SIZE, refl, lent_size m.0 m.1)))
    (split (lent_fits h lent call))

-- ---- what the table says, the tests find

-- 3 NUMBER, by a root, by a slot, and by NEW's kind and wish
high_root_lem : (h : Heap) (call : Call) (i : ℕ) → 63 < get_or (root_numbers call) i 0 → Given 3 (conditions h call)
unfolding conditions root_numbers number
high_root_lem h FRESH i l = absurd (omega arith)
high_root_lem h (NEW r k f) i l = (omega arith, inl (refuted _ (λ t. omega (arith, one_high 63 r i l, ltb-true r 64 (and_left (ltb r 64) (new_ok k f) t)))))
high_root_lem h (CLEAR r) i l = (omega arith, inl (refuted _ (λ t. omega (arith, one_high 63 r i l, ltb-true r 64 t))))
high_root_lem h (COPY to from) i l =
    (omega arith, inl (refuted _ (λ t. let b = below_two to 64 from 64 t in ⊎_elim (λ m. omega (arith, b.0)) (λ m. omega (arith, b.1)) (two_high 63 to from i l))))
high_root_lem h (LOAD to o s) i l =
    (omega arith, inl (refuted _ (λ t. let b = below_three to 64 o 64 s 8 t in ⊎_elim (λ m. omega (arith, b.0)) (λ m. omega (arith, b.1)) (two_high 63 to o i l))))
high_root_lem h (STORE o s from) i l =
    (omega arith, inl (refuted _ (λ t. let b = below_three o 64 s 8 from 64 t in ⊎_elim (λ m. omega (arith, b.0)) (λ m. omega (arith, b.2)) (two_high 63 o from i l))))
high_root_lem h COLLECT i l = absurd (omega arith)
high_root_lem h (START r) i l = (omega arith, inl (refuted _ (λ t. omega (arith, one_high 63 r i l, ltb-true r 64 t))))
high_root_lem h FINISH i l = absurd (omega arith)

high_slot_lem : (h : Heap) (call : Call) (i : ℕ) → 7 < get_or (slot_numbers call) i 0 → Given 3 (conditions h call)
unfolding conditions slot_numbers number
high_slot_lem h FRESH i l = absurd (omega arith)
high_slot_lem h (NEW r k f) i l = absurd (omega arith)
high_slot_lem h (CLEAR r) i l = absurd (omega arith)
high_slot_lem h (COPY to from) i l = absurd (omega arith)
high_slot_lem h (LOAD to o s) i l = (omega arith, inl (refuted _ (λ t. omega (arith, one_high 7 s i l, (below_three to 64 o 64 s 8 t).2))))
high_slot_lem h (STORE o s from) i l = (omega arith, inl (refuted _ (λ t. omega (arith, one_high 7 s i l, (below_three o 64 s 8 from 64 t).1))))
high_slot_lem h COLLECT i l = absurd (omega arith)
high_slot_lem h (START r) i l = absurd (omega arith)
high_slot_lem h FINISH i l = absurd (omega arith)

new_out_of_range : (h : Heap) (r k f : ℕ) → (new_ok k f ≡ true → ⊥) → Given 3 (conditions h (NEW r k f))
unfolding conditions number
new_out_of_range h r k f n = (omega arith, inl (refuted _ (λ t. n (and_right (ltb r 64) (new_ok k f) t))))

-- the two conditions of every call, and then its own
abbrev Found : Heap → Call → ℕ → Type 0
Found h call n = Given n (SIZE when not (fits h) ∷ DAMAGED when (not (is_fresh call) && not (sound h)) ∷ conditions h call)

-- given among the call's own
own : (h : Heap) (call : Call) (n : ℕ) → 2 ≤ n → Given n (conditions h call) → Found h call n
unfolding number
own h call n l g = (omega arith, inr (omega arith, inr g))

-- each line of the table, where the lent table fits
table_found : {k : Reason} {h : Heap} {lent : List ℕ} {call : Call} → lent_fits h lent call ≡ true → Why k h lent call → Found h call (number k)
unfolding number conditions
table_found {h = h} fit (unsized n) = (omega arith, inl (ap not (unfit h n)))
table_found {h = h} {lent = lent} {call = call} fit (lent_size f n) = absurd (n (fitting h lent call f fit))
table_found {h = h} {call = call} fit (unsound f n) =
    ⊎_elim
    (λ t. (omega arith, inr (omega arith, inl (and_join (ap not (fresh_only call f)) (refuted (sound h) (λ s. n (sound_of h (fits_sized h t) s)))))))
    (λ t. (omega arith, inl (ap not t)))
    (split (fits h))
table_found {h = h} {call = call} fit (high_root i l) = own h call 3 (omega arith) (high_root_lem h call i l)
table_found {h = h} {call = call} fit (high_slot i l) = own h call 3 (omega arith) (high_slot_lem h call i l)
table_found {h = h} fit (bad_kind {r = r} {k = k} {f = f} b) =
    own h (NEW r k f) 3 (omega arith)
    (new_out_of_range h r k f (λ t. let p = new_ok_of k f t in ⊎_elim (λ z. omega (arith, p.0)) (λ m. omega (arith, p.1)) b))
table_found {h = h} fit (bad_wish {r = r} {k = k} {f = f} l) =
    own h (NEW r k f) 3 (omega arith) (new_out_of_range h r k f (λ t. omega (arith, (new_ok_of k f t).2)))
table_found {h = h} fit (not_object {r = r} {k = k} {f = f} e n) =
    own h (NEW r k f) 3 (omega arith) (new_out_of_range h r k f (λ t. n ((new_ok_of k f t).3 e)))
table_found {h = h} {call = call} fit (load_empty e) = own h call 4 (omega arith) (omega arith, inr (omega arith, inl (eq-eqb _ _ e)))
table_found {h = h} {call = call} fit (store_empty e) = own h call 4 (omega arith) (omega arith, inr (omega arith, inl (eq-eqb _ _ e)))
table_found {h = h} {call = call} fit (load_kind {o = o} {c = c} e t) =
    own h call 5 (omega arith)
    (omega arith, inr (omega arith, inr (omega arith, inl (ap not (not_object_ok h (root_at h o) c e (λ z. ⊎_elim (λ w. omega arith) (λ w. omega arith) t))))))
table_found {h = h} {call = call} fit (store_kind {o = o} {c = c} e t) =
    own h call 5 (omega arith)
    (omega arith, inr (omega arith, inr (omega arith, inl (ap not (not_object_ok h (root_at h o) c e (λ z. ⊎_elim (λ w. omega arith) (λ w. omega arith) t))))))
table_found {h = h} {call = call} fit (new_taken n) = own h call 6 (omega arith) (omega arith, inr (omega arith, inl (ap not (ne_eqb _ _ n))))
table_found {h = h} {call = call} fit (start_taken n) = own h call 6 (omega arith) (omega arith, inr (omega arith, inl (ap not (ne_eqb _ _ n))))
table_found {h = h} {call = call} fit (full u) =
    own h call 7 (omega arith) (omega arith, inr (omega arith, inr (omega arith, inl (eq-eqb _ _ (lowest_none h.kind u)))))
table_found {h = h} {call = call} fit (busy n) = own h call 8 (omega arith) (omega arith, inr (omega arith, inr (omega arith, inl (ap not (ne_eqb _ _ n)))))
table_found {h = h} {call = call} fit (none e) =
    own h call 9 (omega arith) (omega arith, inr (omega arith, inr (omega arith, inr (omega arith, inl (eq-eqb _ _ e)))))
table_found {h = h} {call = call} fit (idle e) = own h call 10 (omega arith) (omega arith, inl (eq-eqb _ _ e))

-- where the table gives a number, the call is refused, by that or a lower one
pub bound : (h : Heap) (lent : List ℕ) (call : Call) (k : Reason) → Why k h lent call → (1 ≤ refusal_lent h lent call) × (refusal_lent h lent call ≤ number k)
unfolding refusal number
bound h lent call k w =
    ⊎_elim
    (λ t. rw (lent_fits_lem h lent call t) (lowest_given (number k) _ (table_found t w)))
    (λ f. let m = lent_misfits h lent call f in (omega (arith, m.2), omega (arith, m.2, number_some k)))
    (split (lent_fits h lent call))
