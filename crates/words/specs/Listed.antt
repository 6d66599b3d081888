-- Laws of the numbers that pass a test, listed lowest first: what stands at the front of the list, and what behind it.
-- Assumes nothing.
use Rattle.std.specs.Prelude.{ℕ, zero, suc, ◌+◌, ◌-◌, ◌≤◌, ◌<◌, List, [], ◌∷◌, Bool, true, false, cond, ◌≡◌, refl, length, get_or, drop}
use Rattle.std.proofs.Math.Decide.{ℕ_discrete, dec_lt}
use Rattle.std.proofs.Common.{arith, sym, ap, ◌∙◌}
use Rattle.rules.specs.Depth.{first_from}
use Rattle.rules.specs.Words.{is_open, next_open}
use Rattle.laws.specs.Words.Search.{open_law}
use Rattle.words.specs.Search.{all_from, all_between, open_between}

module _ (p : ℕ → Bool) where
  all_skip : (k from t : ℕ) → from ≤ t → t ≤ from + k → ((d : ℕ) → from ≤ d → d < t → p d ≡ false) → all_from p from k ≡ all_from p t (from + k - t)
  unfolding all_from
  all_skip zero from t l m none =
      let e : from ≡ t = omega arith in
      let z : zero ≡ from + zero - t = omega arith in
      λ i. all_from p (e i) (z i)
  all_skip (suc k) from t l m none = elim (ℕ_discrete from t) [
    | yes e ↦ let z : suc k ≡ from + suc k - t = omega arith in λ i. all_from p (e i) (z i)
    | no f ↦
        let z : suc from + k - t ≡ from + suc k - t = omega arith in
        rw (none from (omega arith) (omega (arith, f))) (all_skip k (suc from) t (omega (arith, f)) (omega arith) (λ d a b. none d (omega arith) b) ∙ ap (all_from p t) z)
  ]

  -- numbers that fail
  pub skipped : (from t n : ℕ) → from ≤ t → t ≤ n → ((d : ℕ) → from ≤ d → d < t → p d ≡ false) → all_between p from n ≡ all_between p t n
  skipped from t n l m none =
      let z : from + (n - from) - t ≡ n - t = omega arith in
      all_skip (n - from) from t l (omega arith) none ∙ ap (all_from p t) z

  -- one that passes
  pub listed : (t n : ℕ) → t < n → p t ≡ true → all_between p t n ≡ t ∷ all_between p (suc t) n
  unfolding all_from
  listed t n l is =
      let z : n - t ≡ suc (n - suc t) = omega arith in
      ap (all_from p t) z ∙ rw is refl

  -- none
  pub unlisted : (from n : ℕ) → n ≤ from → all_between p from n ≡ []
  unfolding all_from
  unlisted from n l =
      let z : n - from ≡ 0 = omega arith in
      ap (all_from p from) z

  pub none_listed : (from n : ℕ) → from ≤ n → ((d : ℕ) → from ≤ d → d < n → p d ≡ false) → all_between p from n ≡ []
  none_listed from n l none = skipped from n n l (omega arith) none ∙ unlisted n n (omega arith)

-- tests that agree
all_same : (p q : ℕ → Bool) (k from : ℕ) → ((c : ℕ) → from ≤ c → c < from + k → p c ≡ q c) → all_from p from k ≡ all_from q from k
unfolding all_from
all_same p q zero from same = refl
all_same p q (suc k) from same =
    let here : p from ≡ q from = same from (omega arith) (omega arith) in
    let rest : all_from p (suc from) k ≡ all_from q (suc from) k = all_same p q k (suc from) (λ c a b. same c (omega arith) (omega arith)) in
    λ i. cond (here i) (from ∷ rest i) (rest i)

pub same_listed : (p q : ℕ → Bool) (from n : ℕ) → ((c : ℕ) → from ≤ c → c < n → p c ≡ q c) → all_between p from n ≡ all_between q from n
same_listed p q from n same = all_same p q (n - from) from (λ c a b. same c a (omega arith))

-- ---- the front of the list of the open cells

cons≢nil : {x : ℕ} {l : List ℕ} {A : Type 0} → x ∷ l ≡ [] → A
cons≢nil e = absurd (omega (arith, ap length e))

module _ (words marks : List ℕ) (from n : ℕ) where
  -- a search may begin behind all cells
  pub next_behind : n < from → next_open words marks from n ≡ from
  unfolding next_open first_from
  next_behind l =
      let z : n - from ≡ 0 = omega arith in
      ap (first_from (is_open words marks) from) z

  to_next : from ≤ n → open_between words marks from n ≡ open_between words marks (next_open words marks from n) n
  to_next l =
      let r = open_law words marks from n l in
      skipped (is_open words marks) from (next_open words marks from n) n r.within.0 r.within.1 r.lowest

  -- the lowest stands at the front, and those behind it are listed after it
  pub open_first : next_open words marks from n < n → open_between words marks from n ≡ next_open words marks from n ∷ open_between words marks (suc (next_open words marks from n)) n
  open_first h = elim (dec_lt n from) [
    | yes m ↦ absurd (omega (arith, next_behind m))
    | no f ↦
        let l : from ≤ n = omega (arith, f) in
        to_next l ∙ listed (is_open words marks) (next_open words marks from n) n h ((open_law words marks from n l).passes h)
  ]

  -- or there is none
  pub open_none : n ≤ next_open words marks from n → open_between words marks from n ≡ []
  open_none h = elim (dec_lt n from) [
    | yes m ↦ unlisted (is_open words marks) from n (omega arith)
    | no f ↦ to_next (omega (arith, f)) ∙ unlisted (is_open words marks) (next_open words marks from n) n h
  ]

  -- and what the list says of the lowest
  pub first_open : {c : ℕ} {rest : List ℕ} → open_between words marks from n ≡ c ∷ rest
      → (c ≡ next_open words marks from n) × (next_open words marks from n < n) × (rest ≡ open_between words marks (suc (next_open words marks from n)) n)
  first_open e = elim (dec_lt (next_open words marks from n) n) [
    | yes h ↦ let both = sym e ∙ open_first h in (ap (λ (m : List ℕ). get_or m 0 0) both, h, ap (drop 1) both)
    | no f ↦ cons≢nil (sym e ∙ open_none (omega (arith, f)))
  ]

  pub none_open : open_between words marks from n ≡ [] → n ≤ next_open words marks from n
  none_open e = elim (dec_lt (next_open words marks from n) n) [
    | yes h ↦ cons≢nil (sym (open_first h) ∙ e)
    | no f ↦ omega (arith, f)
  ]
