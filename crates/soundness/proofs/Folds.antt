-- The tests that look at all and go on where one fails: a fold over the entries, or over the cells' numbers.
-- Assumes nothing.
use Prim.Native.Nat.{ℕ, zero, suc, ◌+◌}
use native.Mathlib.Omega.{arith}
use mathlib.Core.List.{List, [], ◌∷◌, ◌++◌}
use mathlib.Core.Bool.{Bool, true, ◌&&◌}
use mathlib.Core.Path.{◌≡◌, refl, sym, ap, ◌∙◌}
use lib.Bits.{bit_or}
use lib.Dec.{eqb}
use borrow.Author.Tests.{eqb-true, eq-eqb}
use denote.Param.Members.{Mut}
use Rattle.std.specs.Fn.{Called}
use Rattle.std.specs.Iterator.{Drains}
use Rattle.std.specs.List.{fold, range_with_len, FoldsTo}
use Rattle.std.proofs.iter.Yields.{nat_range_steps}
use Rattle.std.proofs.lemmas.Iterator.{YieldsList-from_range}
use Rattle.std.proofs.lemmas.Iterator.Consumers.{fold_from_yields_List}
use Rattle.std.proofs.lemmas.List.Sums.{fold_push}
use Rattle.rules.specs.Lists.{all, below}
use Rattle.rules.specs.Lists as Lists
use Rattle.laws.specs.Lists.Tests.{tests_agree, and_join, and_left, and_right}
use Rattle.tally.proofs.Empty.{or_none}

range_more : (a n : ℕ) → range_with_len a (suc n) ≡ range_with_len a n ++ ((a + n) ∷ [])
range_more a zero =
    let e : a ≡ a + 0 = omega arith in
    ap (λ (k : ℕ). k ∷ []) e
range_more a (suc n) =
    let e : a + 1 + n ≡ a + suc n = omega arith in
    ap (λ (l : List ℕ). a ∷ l) (range_more (a + 1) n ∙ ap (λ (k : ℕ). range_with_len (a + 1) n ++ (k ∷ [])) e)

swap : (a b : Bool) → (a && b) ≡ (b && a)
swap a b = tests_agree _ _ (λ t. and_join (and_right a b t) (and_left a b t)) (λ t. and_join (and_right b a t) (and_left b a t))

-- every number below n is looked at
fold_below : (p : ℕ → Bool) (n : ℕ) → fold (λ right c. right && p c) true (range_with_len 0 n) ≡ below n p
unfolding Lists.below
fold_below p zero = refl
fold_below p (suc n) =
    let e : 0 + n ≡ n = omega arith in
    let f : Bool → ℕ → Bool = λ right c. right && p c in
    ap (fold f true) (range_more 0 n) ∙ fold_push f true (range_with_len 0 n) (0 + n) ∙ ap (λ (k : ℕ). f (fold f true (range_with_len 0 n)) k) e
    ∙ swap (fold f true (range_with_len 0 n)) (p n) ∙ ap (λ (b : Bool). p n && b) (fold_below p n)

-- a fold that asks p of each number below n, and whose closure's calls so change nothing but the answer
pub asks_all : {F : Type 0} (g : Mut F (Bool × (ℕ × Unit {0})) Bool) {f : F} (p : ℕ → Bool) (n : ℕ) (r : Bool)
    → (xs : List ℕ) × (q : F) × Drains nat_range_steps (record { start = 0; end = n }) xs × FoldsTo {P = F × Bool} (λ a x b. Called g a.0 (a.1, (x, tt)) b.1 b.0) (f, true) xs (q, r)
    → ((a : Bool) (c : ℕ) (b : Bool) (q : F) → Called g f (a, (c, tt)) b q → (q ≡ f) × (b ≡ (a && p c))) → r ≡ below n p
asks_all g p n r ran step =
    fold_from_yields_List g (λ right c. right && p c) true r ran (YieldsList-from_range 0 n n refl (omega arith)) step ∙ fold_below p n

joined : (a : ℕ) (l : List ℕ) → eqb (fold bit_or a l) 0 ≡ (eqb a 0 && all (eqb 0) l)
unfolding Lists.all
joined a [] = swap true (eqb a 0)
joined a (x ∷ l) = joined (bit_or a x) l ∙ tests_agree _ _ (λ t. apart t) (λ t. together t)
  where
    apart : (eqb (bit_or a x) 0 && all (eqb 0) l) ≡ true → (eqb a 0 && (eqb 0 x && all (eqb 0) l)) ≡ true
    apart t =
        let none = or_none a x (eqb-true _ 0 (and_left (eqb (bit_or a x) 0) (all (eqb 0) l) t)) in
        and_join (eq-eqb a 0 none.0) (and_join (eq-eqb 0 x (sym none.1)) (and_right (eqb (bit_or a x) 0) (all (eqb 0) l) t))

    together : (eqb a 0 && (eqb 0 x && all (eqb 0) l)) ≡ true → (eqb (bit_or a x) 0 && all (eqb 0) l) ≡ true
    together t =
        let rest = and_right (eqb a 0) (eqb 0 x && all (eqb 0) l) t in
        let at : a ≡ 0 = eqb-true a 0 (and_left (eqb a 0) (eqb 0 x && all (eqb 0) l) t) in
        let ax : x ≡ 0 = sym (eqb-true 0 x (and_left (eqb 0 x) (all (eqb 0) l) rest)) in
        and_join (rw (at, ax) refl) (and_right (eqb 0 x) (all (eqb 0) l) rest)

-- joined by `|`, the entries are 0 where all are
pub fold_joined : (l : List ℕ) → eqb (fold bit_or 0 l) 0 ≡ all (eqb 0) l
fold_joined l = joined 0 l
