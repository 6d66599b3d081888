-- The tests of a call's numbers, by what they say of the numbers when they pass and when they fail.
-- Assumes nothing.
use Rattle.std.specs.Prelude.{ℕ, zero, suc, ◌≤◌, ◌<◌, [], ◌∷◌, true, false, ◌&&◌, ◌||◌, ◌⊎◌, ◌≢◌, ◌≡◌, refl, eqb, ltb, get_or}
use Rattle.std.proofs.Math.Decide.{dec_lt}
use Rattle.std.proofs.Common.{arith, inl, inr, ⊎_elim, sym, ap, ◌∙◌, eqb-true, eq-eqb, ne_eqb, leb-true, le-leb, ltb-true, lt-ltb}
use Rattle.std.proofs.Math.Logic.{by_cases}
use Rattle.std.proofs.lemmas.Bool.{eqb-false}
use Rattle.rules.specs.Heap.{Heap, kind_of}
use Rattle.rules.specs.Refusals.{Call, new_ok, object_ok, is_fresh}
use Rattle.rules.specs.Refusals.Call.{FRESH, NEW, CLEAR, COPY, LOAD, STORE, COLLECT, START, FINISH}
use Rattle.laws.specs.Lists.Tests.{clash, fails, and_join, and_left, and_right, every_pass, pass_every}

-- two or three numbers below their bounds, and one of them not
pub below_two : (a x b y : ℕ) → (ltb a x && ltb b y) ≡ true → (a < x) × (b < y)
below_two a x b y t = (ltb-true a x (and_left (ltb a x) (ltb b y) t), ltb-true b y (and_right (ltb a x) (ltb b y) t))

pub below_three : (a x b y c z : ℕ) → (ltb a x && ltb b y && ltb c z) ≡ true → (a < x) × (b < y) × (c < z)
below_three a x b y c z t =
    let l = below_two a x b y (and_left (ltb a x && ltb b y) (ltb c z) t) in
    (l.0, l.1, ltb-true c z (and_right (ltb a x && ltb b y) (ltb c z) t))

pub high_two : (a x b y : ℕ) → (ltb a x && ltb b y) ≡ false → (x ≤ a) ⊎ (y ≤ b)
high_two a x b y f =
    by_cases (dec_lt a x)
    (λ l. by_cases (dec_lt b y) (λ m. clash (and_join (lt-ltb a x l) (lt-ltb b y m)) f) (λ n. inr (omega arith)))
    (λ n. inl (omega arith))

pub high_three : (a x b y c z : ℕ) → (ltb a x && ltb b y && ltb c z) ≡ false → (x ≤ a) ⊎ ((y ≤ b) ⊎ (z ≤ c))
high_three a x b y c z f =
    by_cases (dec_lt c z)
    (λ l. ⊎_elim inl (λ m. inr (inl m)) (high_two a x b y (fails (ltb a x && ltb b y) (λ t. clash (and_join t (lt-ltb c z l)) f))))
    (λ n. inr (inr (omega arith)))

-- an entry of a list of one or two numbers
pub one_high : (n a i : ℕ) → n < get_or (a ∷ []) i 0 → n < a
one_high n a zero l = l
one_high n a (suc i) l = absurd (omega arith)

pub two_high : (n a b i : ℕ) → n < get_or (a ∷ b ∷ []) i 0 → (n < a) ⊎ (n < b)
two_high n a b zero l = inl l
two_high n a b (suc i) l = inr (one_high n b i l)

-- a wish only for an object
wish_of : (f k : ℕ) → (eqb f 0 || eqb k 1) ≡ true → f ≡ 1 → k ≡ 1
wish_of f k t e = eqb-true k 1 (rw (ne_eqb f 0 (λ z. omega arith)) at t)

wish_ok : (f k : ℕ) → f ≤ 1 → (f ≡ 1 → k ≡ 1) → (eqb f 0 || eqb k 1) ≡ true
wish_ok zero k l w = refl
wish_ok (suc f) k l w = rw (ne_eqb (suc f) 0 (λ z. omega arith)) (eq-eqb k 1 (w (omega arith)))

-- the numbers of NEW but for its root
pub new_ok_of : (k f : ℕ) → new_ok k f ≡ true → (1 ≤ k) × (k ≤ 3) × (f ≤ 1) × (f ≡ 1 → k ≡ 1)
unfolding new_ok
new_ok_of k f t =
    let p = every_pass _ t in
    (leb-true 1 k p.0, leb-true k 3 p.1.0, leb-true f 1 p.1.1.0, wish_of f k p.1.1.1.0)

pub of_new_ok : (k f : ℕ) → 1 ≤ k → k ≤ 3 → f ≤ 1 → (f ≡ 1 → k ≡ 1) → new_ok k f ≡ true
unfolding new_ok
of_new_ok k f a b c d = pass_every _ (le-leb 1 k a, (le-leb k 3 b, (le-leb f 1 c, (wish_ok f k c d, tt))))

pub object_ok_of : (h : Heap) (x : ℕ) → object_ok h x ≡ true → (c : ℕ) × (x ≡ suc c) × (kind_of h c ≡ 1)
unfolding object_ok
object_ok_of h zero t = clash t refl
object_ok_of h (suc c) t = (c, refl, eqb-true (kind_of h c) 1 t)

-- of a reference that isn't empty
pub object_ok_not : (h : Heap) (x c : ℕ) → x ≡ suc c → object_ok h x ≡ false → kind_of h c ≢ 1
unfolding object_ok
object_ok_not h x c e f = eqb-false (kind_of h c) 1 (sym (ap (object_ok h) e) ∙ f)

pub not_object_ok : (h : Heap) (x c : ℕ) → x ≡ suc c → kind_of h c ≢ 1 → object_ok h x ≡ false
unfolding object_ok
not_object_ok h x c e n = ap (object_ok h) e ∙ ne_eqb (kind_of h c) 1 n

-- FRESH, or one of the eight calls
pub by_fresh : {P : Call → Type 0} → P FRESH → ((call : Call) → is_fresh call ≡ false → P call) → (call : Call) → P call
unfolding is_fresh
by_fresh fresh eight FRESH = fresh
by_fresh fresh eight (NEW r k f) = eight (NEW r k f) refl
by_fresh fresh eight (CLEAR r) = eight (CLEAR r) refl
by_fresh fresh eight (COPY to from) = eight (COPY to from) refl
by_fresh fresh eight (LOAD to o s) = eight (LOAD to o s) refl
by_fresh fresh eight (STORE o s from) = eight (STORE o s from) refl
by_fresh fresh eight COLLECT = eight COLLECT refl
by_fresh fresh eight (START r) = eight (START r) refl
by_fresh fresh eight FINISH = eight FINISH refl

pub fresh_only : (call : Call) → call ≢ FRESH → is_fresh call ≡ false
fresh_only = by_fresh (λ n. absurd (n refl)) (λ call f n. f)

pub not_fresh : (call : Call) → is_fresh call ≡ false → call ≢ FRESH
unfolding is_fresh
not_fresh call f e = clash (ap is_fresh e) f
