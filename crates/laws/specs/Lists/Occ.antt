-- How often a number stands in a list. Membership is `1 ≤ occ x l`, and that entries are distinct is `occ x l ≤ 1`.
-- Assumes nothing.
use Rattle.std.specs.Prelude.{ℕ, zero, suc, ◌+◌, ◌≤◌, ◌<◌, List, [], ◌∷◌, ◌++◌, map, true, ◌≢◌, ◌≡◌, refl, eqb, length, get_or, take, drop, set, replicate}
use Rattle.std.proofs.Math.Decide.{ℕ_discrete}
use Rattle.std.proofs.Common.{arith, sym, ap, ◌∙◌, eq-eqb, ne_eqb, eqb-true, length-set, drop-cons, drop-set-lt}
use Rattle.std.proofs.Math.Dec.{eqb-suc-suc}
use Rattle.std.proofs.lemmas.List.Edits.{sets}
use Rattle.rules.specs.Lists.{occ, distinct}
use Rattle.laws.specs.Lists.Tests.{and_join, and_left, and_right}

pub occ_nil : (x : ℕ) → occ x [] ≡ 0
unfolding occ
occ_nil x = refl

pub occ_same : (x y : ℕ) (l : List ℕ) → x ≡ y → occ x (y ∷ l) ≡ suc (occ x l)
unfolding occ
occ_same x y l e = rw (eq-eqb x y e) (omega arith)

pub occ_here : (x : ℕ) (l : List ℕ) → occ x (x ∷ l) ≡ suc (occ x l)
occ_here x l = occ_same x x l refl

pub occ_there : (x y : ℕ) (l : List ℕ) → x ≢ y → occ x (y ∷ l) ≡ occ x l
unfolding occ
occ_there x y l n = rw (ne_eqb x y n) (omega arith)

pub occ-append : (x : ℕ) (l m : List ℕ) → occ x (l ++ m) ≡ occ x l + occ x m
unfolding occ
occ-append x [] m = omega arith
occ-append x (y ∷ l) m = omega (arith, occ-append x l m)

pub occ_three : (x : ℕ) (a b c : List ℕ) → occ x (a ++ (b ++ c)) ≡ occ x a + (occ x b + occ x c)
occ_three x a b c = omega (arith, occ-append x a (b ++ c), occ-append x b c)

pub occ_cons : (x y : ℕ) (l : List ℕ) → occ x (y ∷ l) ≡ occ x (y ∷ []) + occ x l
occ_cons x y l = occ-append x (y ∷ []) l

pub occ_snoc_here : (x : ℕ) (l : List ℕ) → occ x (l ++ (x ∷ [])) ≡ suc (occ x l)
occ_snoc_here x l = omega (arith, occ-append x l (x ∷ []), occ_here x [], occ_nil x)

pub occ_snoc_there : (x y : ℕ) (l : List ℕ) → x ≢ y → occ x (l ++ (y ∷ [])) ≡ occ x l
occ_snoc_there x y l n = omega (arith, occ-append x l (y ∷ []), occ_there x y [] n, occ_nil x)

-- a list of one number
pub occ_one : (x y : ℕ) → x ≡ y → occ x (y ∷ []) ≡ 1
occ_one x y e = omega (arith, occ_same x y [] e, occ_nil x)

pub occ_other : (x y : ℕ) → x ≢ y → occ x (y ∷ []) ≡ 0
occ_other x y n = omega (arith, occ_there x y [] n, occ_nil x)

pub occ_absent : (x y : ℕ) → occ x (y ∷ []) ≡ 0 → x ≢ y
occ_absent x y z e = omega (arith, occ_one x y e)

pub occ_single : (x y : ℕ) → 1 ≤ occ x (y ∷ []) → x ≡ y
occ_single x y o = elim (ℕ_discrete x y) [ yes e ↦ e | no n ↦ absurd (omega (arith, occ_other x y n)) ]

pub occ-length : (x : ℕ) (l : List ℕ) → occ x l ≤ length l
occ-length x [] = omega (arith, occ_nil x)
occ-length x (y ∷ l) = elim (ℕ_discrete x y) [
  | yes e ↦ omega (arith, occ_same x y l e, occ-length x l)
  | no n ↦ omega (arith, occ_there x y l n, occ-length x l)
]

pub occ_empty : (l : List ℕ) → ((x : ℕ) → occ x l ≡ 0) → l ≡ []
occ_empty [] none = refl
occ_empty (c ∷ l) none = absurd (omega (arith, none c, occ_here c l))

-- ---- where it stands

pub occ_at : (x : ℕ) (l : List ℕ) (i : ℕ) → i < length l → get_or l i 0 ≡ x → 1 ≤ occ x l
occ_at x [] i h e = absurd (omega arith)
occ_at x (y ∷ l) zero h e = omega (arith, occ_same x y l (sym e))
occ_at x (y ∷ l) (suc i) h e = omega (arith, occ_cons x y l, occ_at x l i (omega arith) e)

-- an entry that is x
pub record Stands (x : ℕ) (l : List ℕ) : Type 0 where
  pub at : ℕ
  pub inside : at < length l
  pub is : get_or l at 0 ≡ x

pub occ_find : (x : ℕ) (l : List ℕ) → 1 ≤ occ x l → Stands x l
occ_find x [] h = absurd (omega (arith, occ_nil x))
occ_find x (y ∷ l) h = elim (ℕ_discrete x y) [
  | yes e ↦ record { at = 0; inside = omega arith; is = sym e }
  | no n ↦ let s = occ_find x l (omega (arith, occ_there x y l n)) in record { at = suc s.at; inside = omega (arith, s.inside); is = s.is }
]

pub occ_none : (x : ℕ) (l : List ℕ) → ((i : ℕ) → i < length l → get_or l i 0 ≢ x) → occ x l ≡ 0
occ_none x l f = elim (ℕ_discrete (occ x l) 0) [ yes e ↦ e | no n ↦ let s = occ_find x l (omega arith) in absurd (f s.at s.inside s.is) ]

-- ---- entries written

-- an entry is replaced: the new one comes, the old one goes
pub occ-set : (x : ℕ) (l : List ℕ) (i v : ℕ) → i < length l → occ x (set l i v) + occ x (get_or l i 0 ∷ []) ≡ occ x l + occ x (v ∷ [])
occ-set x [] i v h = absurd (omega arith)
occ-set x (y ∷ l) zero v h = omega (arith, occ_cons x v l, occ_cons x y l)
occ-set x (y ∷ l) (suc i) v h = omega (arith, occ-set x l i v (omega arith), occ_cons x y l, occ_cons x y (set l i v))

-- a run of zeros: what stood in the run, and what stands in the list without it
pub occ_cleared : (k : ℕ) (l : List ℕ) (i y : ℕ) → i + k ≤ length l → occ (suc y) (sets l i (replicate k 0)) + occ (suc y) (take k (drop i l)) ≡ occ (suc y) l
occ_cleared zero l i y b = omega (arith, occ_nil (suc y))
occ_cleared (suc k) l i y b =
    let here : i < length l = omega arith in
    let rest : occ (suc y) (sets (set l i 0) (suc i) (replicate k 0)) + occ (suc y) (take k (drop (suc i) l)) ≡ occ (suc y) (set l i 0) =
    rw (drop-set-lt (suc i) l i 0 (omega arith)) at (occ_cleared k (set l i 0) (suc i) y (omega (arith, length-set l i 0))) in
    let front : occ (suc y) (take (suc k) (drop i l)) ≡ occ (suc y) (get_or l i 0 ∷ []) + occ (suc y) (take k (drop (suc i) l)) =
    ap (λ (m : List ℕ). occ (suc y) (take (suc k) m)) (drop-cons l i 0 here) ∙ occ_cons (suc y) (get_or l i 0) (take k (drop (suc i) l)) in
    omega (arith, occ-set (suc y) l i 0 here, occ_other (suc y) 0 (λ e. omega arith))

-- ---- entries that become x

occ_head : (v x y : ℕ) → (x ≡ v → y ≡ v) → occ v (x ∷ []) ≤ occ v (y ∷ [])
occ_head v x y k = elim (ℕ_discrete x v) [
  | yes e ↦ omega (arith, occ_one v x (sym e), occ_one v y (sym (k e)))
  | no f ↦ omega (arith, occ_other v x (λ e. f (sym e)))
]

occ_mono : (v : ℕ) (m m' : List ℕ) → length m' ≡ length m → ((d : ℕ) → get_or m d 0 ≡ v → get_or m' d 0 ≡ v) → occ v m ≤ occ v m'
occ_mono v [] m' e k = omega (arith, occ_nil v)
occ_mono v (x ∷ m) [] e k = absurd (omega arith)
occ_mono v (x ∷ m) (y ∷ m') e k = omega (arith, occ_cons v x m, occ_cons v y m', occ_head v x y (k 0), occ_mono v m m' (omega arith) (λ d. k (suc d)))

-- entries that are v stay v, and one more becomes v
pub occ_grows : (v : ℕ) (m m' : List ℕ) → length m' ≡ length m → ((d : ℕ) → get_or m d 0 ≡ v → get_or m' d 0 ≡ v)
    → (c : ℕ) → c < length m → get_or m c 0 ≢ v → get_or m' c 0 ≡ v → occ v m < occ v m'
occ_grows v [] m' e k c h f g = absurd (omega arith)
occ_grows v (x ∷ m) [] e k c h f g = absurd (omega arith)
occ_grows v (x ∷ m) (y ∷ m') e k zero h f g =
    omega (arith, occ_cons v x m, occ_cons v y m', occ_other v x (λ e. f (sym e)), occ_one v y (sym g), occ_mono v m m' (omega arith) (λ d. k (suc d)))
occ_grows v (x ∷ m) (y ∷ m') e k (suc c) h f g =
    omega (arith, occ_cons v x m, occ_cons v y m', occ_head v x y (k 0), occ_grows v m m' (omega arith) (λ d. k (suc d)) c (omega arith) f g)

-- while an entry is not v, not all are
pub occ_room : (v : ℕ) (m : List ℕ) (c : ℕ) → c < length m → get_or m c 0 ≢ v → occ v m < length m
occ_room v m c h f = omega (arith, occ-set v m c v h, occ_other v (get_or m c 0) (λ e. f (sym e)), occ_one v v refl, occ-length v (set m c v), length-set m c v)

-- ---- references to cells

pub occ_refs : (x : ℕ) (l : List ℕ) → occ (suc x) (map suc l) ≡ occ x l
unfolding occ
occ_refs x [] = refl
occ_refs x (c ∷ l) = rw eqb-suc-suc (omega (arith, occ_refs x l))

pub zero_refs : (l : List ℕ) → occ 0 (map suc l) ≡ 0
zero_refs [] = occ_nil 0
zero_refs (c ∷ l) = occ_there 0 (suc c) (map suc l) (λ e. omega arith) ∙ zero_refs l

-- ---- distinct entries

pub distinct_once : (l : List ℕ) → distinct l ≡ true → (x : ℕ) → occ x l ≤ 1
unfolding distinct
distinct_once [] d x = omega (arith, occ_nil x)
distinct_once (y ∷ l) d x = elim (ℕ_discrete x y) [
  | yes e ↦ omega (arith, occ_same x y l e, ap (λ (z : ℕ). occ z l) e, eqb-true (occ y l) 0 (and_left (eqb (occ y l) 0) (distinct l) d))
  | no n ↦ omega (arith, occ_there x y l n, distinct_once l (and_right (eqb (occ y l) 0) (distinct l) d) x)
]

pub once_distinct : (l : List ℕ) → ((x : ℕ) → occ x l ≤ 1) → distinct l ≡ true
unfolding distinct
once_distinct [] h = refl
once_distinct (y ∷ l) h =
    and_join (eq-eqb (occ y l) 0 (omega (arith, h y, occ_here y l))) (once_distinct l (λ x. omega (arith, h x, occ_cons x y l)))

-- the same by places
pub once_apart : (l : List ℕ) → ((x : ℕ) → occ x l ≤ 1) → (i j : ℕ) → i < j → j < length l → get_or l i 0 ≢ get_or l j 0
once_apart [] h i j o m e = omega arith
once_apart (y ∷ l) h zero zero o m e = omega arith
once_apart (y ∷ l) h zero (suc j) o m e = omega (arith, h y, occ_here y l, occ_at y l j (omega arith) (sym e))
once_apart (y ∷ l) h (suc i) zero o m e = omega arith
once_apart (y ∷ l) h (suc i) (suc j) o m e = once_apart l (λ x. omega (arith, h x, occ_cons x y l)) i j (omega arith) (omega arith) e

pub apart_once : (l : List ℕ) → ((i j : ℕ) → i < j → j < length l → get_or l i 0 ≢ get_or l j 0) → (x : ℕ) → occ x l ≤ 1
apart_once [] h x = omega (arith, occ_nil x)
apart_once (y ∷ l) h x = elim (ℕ_discrete x y) [
  | yes e ↦
      let none : occ x l ≡ 0 = occ_none x l (λ i m f. h 0 (suc i) (omega arith) (omega arith) (sym e ∙ sym f)) in
      omega (arith, occ_same x y l e)
  | no n ↦ omega (arith, occ_there x y l n, apart_once l (λ i j o m f. h (suc i) (suc j) (omega arith) (omega arith) f) x)
]
