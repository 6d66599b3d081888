-- The numbers below n that pass a test: each once, and just those.
-- Assumes nothing.
use Prim.Native.Nat.{ℕ, zero, suc, ◌+◌, ◌≤◌, ◌<◌}
use Rattle.std.proofs.Math.Decide.{ℕ_discrete}
use Rattle.std.proofs.Common.{add-one, arith, append_assoc, append-nil, sym, ◌∙◌}
use Rattle.std.specs.Prelude.{List, [], ◌∷◌, ◌++◌, Bool, true, false, cond, ◌≡◌, refl, length}
use Rattle.std.proofs.Math.Path.{ap}
use Rattle.rules.specs.Lists.{occ, select}
use Rattle.laws.specs.Lists.Tests.{clash, none_of}
use Rattle.laws.specs.Lists.Occ.{occ_nil, occ-append, occ_one, occ_other, occ_single}
use Rattle.laws.specs.Lists.Pigeonhole.{total, length_total}

-- what stands in a list that is there if a test passes
pub cond_only : (b : Bool) (l : List ℕ) (x : ℕ) → 1 ≤ occ x (cond b l []) → (b ≡ true) × (1 ≤ occ x l)
cond_only true l x o = (refl, o)
cond_only false l x o = absurd (omega (arith, occ_nil x))

-- how often x stands in a list of one number or none
last_only : (b : Bool) (n x : ℕ) → 1 ≤ occ x (cond b (n ∷ []) []) → (b ≡ true) × (x ≡ n)
last_only b n x o = let r = cond_only b (n ∷ []) x o in (r.0, occ_single x n r.1)

last_in : (b : Bool) (n : ℕ) → b ≡ true → occ n (cond b (n ∷ []) []) ≡ 1
last_in true n e = occ_one n n refl
last_in false n e = clash e refl

last_once : (b : Bool) (n x : ℕ) → occ x (cond b (n ∷ []) []) ≤ 1
last_once true n x = elim (ℕ_discrete x n) [ yes e ↦ omega (arith, occ_one x n e) | no m ↦ omega (arith, occ_other x n m) ]
last_once false n x = omega (arith, occ_nil x)

module _ (p : ℕ → Bool) where
  pub select_only : (n x : ℕ) → 1 ≤ occ x (select p n) → (x < n) × (p x ≡ true)
  unfolding select
  select_only zero x o = absurd (omega (arith, occ_nil x))
  select_only (suc n) x o = elim (ℕ_discrete (occ x (select p n)) 0) [
    | yes z ↦
        let r = last_only (p n) n x (omega (arith, occ-append x (select p n) (cond (p n) (n ∷ []) []))) in
        (omega (arith, r.1), ap p r.1 ∙ r.0)
    | no m ↦ let r = select_only n x (omega arith) in (omega (arith, r.0), r.1)
  ]

  pub select_once : (n x : ℕ) → occ x (select p n) ≤ 1
  unfolding select
  select_once zero x = omega (arith, occ_nil x)
  select_once (suc n) x =
      let sum = occ-append x (select p n) (cond (p n) (n ∷ []) []) in
      elim (ℕ_discrete (occ x (cond (p n) (n ∷ []) [])) 0) [
        | yes z ↦ omega (arith, select_once n x)
        | no m ↦
            let here = last_only (p n) n x (omega arith) in
            elim (ℕ_discrete (occ x (select p n)) 0) [
              | yes z ↦ omega (arith, last_once (p n) n x)
              | no k ↦ absurd (omega (arith, (select_only n x (omega arith)).0, here.1))
            ]
      ]

  pub select_in : (n x : ℕ) → x < n → p x ≡ true → 1 ≤ occ x (select p n)
  unfolding select
  select_in zero x l t = absurd (omega arith)
  select_in (suc n) x l t =
      let sum = occ-append x (select p n) (cond (p n) (n ∷ []) []) in
      elim (ℕ_discrete x n) [
        | yes e ↦ omega (arith, ap (λ (y : ℕ). occ y (cond (p n) (n ∷ []) [])) e, last_in (p n) n (ap p (sym e) ∙ t))
        | no d ↦ omega (arith, select_in n x (omega arith) t)
      ]

total_same : (k : ℕ) (f g : ℕ → ℕ) → ((x : ℕ) → f x ≡ g x) → total k f ≡ total k g
unfolding total
total_same zero f g same = refl
total_same (suc k) f g same = omega (arith, same k, total_same k f g same)

-- lists with the same numbers, equally often, are equally long
pub length_by_occ : (n : ℕ) (l m : List ℕ) → ((x : ℕ) → 1 ≤ occ x l → x < n) → ((x : ℕ) → occ x l ≡ occ x m) → length l ≡ length m
length_by_occ n l m small same =
    length_total n l small ∙ total_same n (λ x. occ x l) (λ x. occ x m) same ∙ sym (length_total n m (λ x o. small x (omega (arith, same x))))

-- ---- as a loop over the numbers goes through them

-- one number more
pub select_next : (p : ℕ → Bool) (n : ℕ) → select p (n + 1) ≡ select p n ++ cond (p n) (n ∷ []) []
unfolding select
select_next p n = rw add-one refl

pub select_passing : (p : ℕ → Bool) (n : ℕ) → p n ≡ true → select p (suc n) ≡ select p n ++ (n ∷ [])
unfolding select
select_passing p n e = rw e refl

-- numbers that fail in between
pub select_skip : (p : ℕ → Bool) (from r : ℕ) → from ≤ r → ((d : ℕ) → from ≤ d → d < r → p d ≡ false) → select p r ≡ select p from
unfolding select
select_skip p from zero l none = let e : from ≡ 0 = omega arith in rw e refl
select_skip p from (suc r) l none = elim (ℕ_discrete from (suc r)) [
  | yes e ↦ rw e refl
  | no f ↦
      rw (none r (omega arith) (omega arith))
      (append-nil (select p r) ∙ select_skip p from r (omega arith) (λ d a b. none d a (omega arith)))
]

-- the numbers to come are not among those passed
pub select_new : (p : ℕ → Bool) (n : ℕ) → occ n (select p n) ≡ 0
select_new p n = none_of (occ n (select p n)) (λ o. omega (arith, select_only p n n o))

-- those below c, and the rest
pub select_rest : (p : ℕ → Bool) (c n : ℕ) → c ≤ n → (rest : List ℕ) × (select p n ≡ select p c ++ rest)
unfolding select
select_rest p c zero l = let e : c ≡ 0 = omega arith in ([], rw e refl)
select_rest p c (suc n) l = elim (ℕ_discrete c (suc n)) [
  | yes e ↦ ([], rw e (sym (append-nil (select p n ++ cond (p n) (n ∷ []) []))))
  | no f ↦
      let r = select_rest p c n (omega arith) in
      (r.0 ++ cond (p n) (n ∷ []) [], ap (λ (m : List ℕ). m ++ cond (p n) (n ∷ []) []) r.1 ∙ append_assoc (select p c) r.0 (cond (p n) (n ∷ []) []))
]

-- two tests that agree below n select the same numbers
pub select_same : (p q : ℕ → Bool) (n : ℕ) → ((c : ℕ) → c < n → p c ≡ q c) → select p n ≡ select q n
unfolding select
select_same p q zero h = refl
select_same p q (suc n) h =
    let before : select p n ≡ select q n = select_same p q n (λ c l. h c (omega arith)) in
    let here : p n ≡ q n = h n (omega arith) in
    λ i. before i ++ cond (here i) (n ∷ []) []
