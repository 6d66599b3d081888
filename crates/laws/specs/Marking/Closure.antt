-- Laws of marking in rounds: what `mark_from` marks are the least marks that hold the old ones and what the table names, and are closed under slots.
-- Assumes nothing.
use Prim.Native.Nat.{ℕ, zero, suc, ◌+◌, ◌*◌, ◌≤◌, ◌<◌}
use Rattle.std.proofs.Common.{eq-or-lt_of_le, le_of_suc-le-suc, inl, inr, sym, subst, ◌∙◌, length-set, ext_get_or, get_or-set_same, get_or-drop}
use Rattle.std.proofs.Math.Decide.{dec_lt, ℕ_discrete}
use native.Mathlib.Omega.{arith}
use mathlib.Core.List.{List, [], ◌∷◌, ◌++◌}
use Rattle.std.specs.Prelude.{◌⊎◌, ◌≡◌, refl, length, get_or, set, take, drop, replicate}
use Rattle.std.proofs.Math.Logic.{⊎_elim}
use Rattle.rules.specs.Lists.{occ}
use Rattle.rules.specs.Heap.{slots_of}
use Rattle.rules.specs.Marking.{mark, mark_if, spread_from, spread, closure, mark_from}
use Rattle.laws.specs.Lists.Tables.{inside, get_or-zeros, set_cases}
use Rattle.laws.specs.Lists.Occ.{occ_grows, occ_room}
use Rattle.laws.specs.Marking.Marks.{Names, Within, Held, Bits, Only, Closed, ClosedMarks}

-- ---- references in a table

pub names-append : (s t : List ℕ) (d : ℕ) → Names (s ++ t) d → Names s d ⊎ Names t d
names-append [] t d n = inr n
names-append (x ∷ s) t d (zero, e) = inl (zero, e)
names-append (x ∷ s) t d (suc i, e) = ⊎_elim (λ n. inl (suc n.0, n.1)) inr (names-append s t d (i, e))

pub names_left : (s t : List ℕ) (d : ℕ) → Names s d → Names (s ++ t) d
names_left [] t d (i, e) = absurd (omega arith)
names_left (x ∷ s) t d (zero, e) = (zero, e)
names_left (x ∷ s) t d (suc i, e) = let n = names_left s t d (i, e) in (suc n.0, n.1)

pub names_right : (s t : List ℕ) (d : ℕ) → Names t d → Names (s ++ t) d
names_right [] t d n = n
names_right (x ∷ s) t d n = let r = names_right s t d n in (suc r.0, r.1)

pub names_one : (r d : ℕ) → Names (r ∷ []) d → r ≡ suc d
names_one r d (zero, e) = e
names_one r d (suc i, e) = absurd (omega arith)

pub within-append : {n : ℕ} (s t : List ℕ) → Within n s → Within n t → Within n (s ++ t)
within-append [] t a b i = b i
within-append (x ∷ s) t a b zero = a 0
within-append (x ∷ s) t a b (suc i) = within-append s t (λ j. a (suc j)) b i

-- parts of a table
pub within-take : {n : ℕ} (k : ℕ) (l : List ℕ) → Within n l → Within n (take k l)
within-take zero l w i = omega arith
within-take (suc k) [] w i = omega arith
within-take (suc k) (x ∷ l) w zero = w 0
within-take (suc k) (x ∷ l) w (suc i) = within-take k l (λ j. w (suc j)) i

pub within-drop : {n : ℕ} (k : ℕ) (l : List ℕ) → Within n l → Within n (drop k l)
within-drop k l w i = rw get_or-drop (w (k + i))

pub within_slots : {n : ℕ} (slots : List ℕ) (c : ℕ) → Within n slots → Within n (slots_of slots c)
unfolding slots_of
within_slots slots c w = within-take 8 (drop (8 * c) slots) (within-drop (8 * c) slots w)

-- a cell that is named is one of the cells
pub names_within : {n : ℕ} (table : List ℕ) (d : ℕ) → Within n table → Names table d → d < n
names_within table d w (i, e) = omega (arith, w i)

-- ---- marks that grow

-- more is marked, and only with marks 1 in P
record Grown (P : ℕ → Type 0) (m m' : List ℕ) : Type 0 where
  pub len : length m' ≡ length m
  pub keeps : (d : ℕ) → Held m d → Held m' d
  pub bits : Bits m → Bits m'
  pub only : Only P m → Only P m'

-- nothing is said of where
abbrev Any : ℕ → Type 0
Any d = Unit {0}

grown_refl : {P : ℕ → Type 0} {m : List ℕ} → Grown P m m
grown_refl = record { len = refl; keeps = λ d h. h; bits = λ b. b; only = λ o. o }

grown_trans : {P : ℕ → Type 0} {m m' m'' : List ℕ} → Grown P m m' → Grown P m' m'' → Grown P m m''
grown_trans g h = record { len = h.len ∙ g.len; keeps = λ d x. h.keeps d (g.keeps d x); bits = λ b. h.bits (g.bits b); only = λ o. h.only (g.only o) }

set_grown : {P : ℕ → Type 0} (m : List ℕ) (c : ℕ) → P c → Grown P m (set m c 1)
set_grown {P} m c p = record {
  len = length-set m c 1;
  keeps = λ d h. ⊎_elim (λ w. omega arith) (λ e. omega arith) (set_cases m c 1 d);
  bits = λ b d. ⊎_elim (λ w. omega arith) (λ e. omega (arith, b d)) (set_cases m c 1 d);
  only = λ o d h. ⊎_elim (λ w. subst P (sym w.0) p) (λ e. o d (omega arith)) (set_cases m c 1 d);
}

-- ---- a table marked

mark_grown : {P : ℕ → Type 0} (table m : List ℕ) → ((d : ℕ) → Names table d → P d) → Grown P m (mark m table)
unfolding mark
mark_grown [] m p = grown_refl
mark_grown (zero ∷ table) m p = mark_grown table m (λ d n. p d (suc n.0, n.1))
mark_grown (suc c ∷ table) m p = grown_trans (set_grown m c (p c (0, refl))) (mark_grown table (set m c 1) (λ d n. p d (suc n.0, n.1)))

pub mark_lists : (table m : List ℕ) (d : ℕ) → Names table d → d < length m → Held (mark m table) d
unfolding mark
mark_lists [] m d (i, e) h = absurd (omega arith)
mark_lists (zero ∷ table) m d (zero, e) h = absurd (omega arith)
mark_lists (zero ∷ table) m d (suc i, e) h = mark_lists table m d (i, e) h
mark_lists (suc c ∷ table) m d (zero, e) h =
    let same : c ≡ d = omega arith in
    (mark_grown {P = Any} table (set m c 1) (λ _ _. tt)).keeps d (rw same (omega (arith, get_or-set_same m d 1 0 h)))
mark_lists (suc c ∷ table) m d (suc i, e) h = mark_lists table (set m c 1) d (i, e) (simp length-set h)

-- ---- rounds

mark_if_grown : {P : ℕ → Type 0} (s : ℕ) (m table : List ℕ) → (0 < s → (d : ℕ) → Names table d → P d) → Grown P m (mark_if s m table)
unfolding mark_if
mark_if_grown zero m table p = grown_refl
mark_if_grown (suc s) m table p = mark_grown table m (p (omega arith))

mark_if_lists : (s : ℕ) (m table : List ℕ) (d : ℕ) → 0 < s → Names table d → d < length m → Held (mark_if s m table) d
unfolding mark_if
mark_if_lists zero m table d p n h = absurd (omega arith)
mark_if_lists (suc s) m table d p n h = mark_lists table m d n h

-- two lists of bits, one within the other
bit_kept : (m m' : List ℕ) → Bits m' → ((d : ℕ) → Held m d → Held m' d) → (d : ℕ) → get_or m d 0 ≡ 1 → get_or m' d 0 ≡ 1
bit_kept m m' b k d e = omega (arith, b d, k d (omega arith))

-- or each within the other
bits_equal : (m m' : List ℕ) → length m ≡ length m' → Bits m → Bits m' → ((d : ℕ) → Held m d → Held m' d) → ((d : ℕ) → Held m' d → Held m d) → m ≡ m'
bits_equal m m' e b b' to from = ext_get_or 0 m m' e (λ i h. elim (dec_lt 0 (get_or m i 0)) [
  | yes l ↦ omega (arith, b i, b' i, to i l)
  | no f ↦ elim (dec_lt 0 (get_or m' i 0)) [ yes l ↦ absurd (f (from i l)) | no g ↦ omega arith ]
])

module _ (slots : List ℕ) where
  spread_from_grown : {P : ℕ → Type 0} (old : List ℕ) → Closed slots P → Only P old → (k : ℕ) (m : List ℕ) → Grown P m (spread_from slots old m k)
  unfolding spread_from
  spread_from_grown old closed o zero m = grown_refl
  spread_from_grown old closed o (suc c) m =
      grown_trans (mark_if_grown (get_or old c 0) m (slots_of slots c) (λ h d n. closed c d (o c h) n)) (spread_from_grown old closed o c (mark_if (get_or old c 0) m (slots_of slots c)))

  spread_from_lists : (old : List ℕ) (k : ℕ) (m : List ℕ) (c d : ℕ) → c < k → Held old c → Names (slots_of slots c) d → d < length m → Held (spread_from slots old m k) d
  unfolding spread_from
  spread_from_lists old zero m c d lt o n h = absurd (omega arith)
  spread_from_lists old (suc k) m c d lt o n h =
      let m' : List ℕ = mark_if (get_or old k 0) m (slots_of slots k) in
      ⊎_elim
      (λ e. (spread_from_grown {P = Any} old (λ _ _ _ _. tt) (λ _ _. tt) k m').keeps d
      (subst (λ (j : ℕ). Held (mark_if (get_or old j 0) m (slots_of slots j)) d) e (mark_if_lists (get_or old c 0) m (slots_of slots c) d o n h)))
      (λ l. spread_from_lists old k m' c d l o n (omega (arith, (mark_if_grown {P = Any} (get_or old k 0) m (slots_of slots k) (λ _ _ _. tt)).len)))
      (eq-or-lt_of_le (le_of_suc-le-suc lt))

  spread_grown : {P : ℕ → Type 0} (m : List ℕ) → Closed slots P → Only P m → Grown P m (spread slots m)
  unfolding spread
  spread_grown m closed o = spread_from_grown m closed o (length m) m

  spread_lists : (m : List ℕ) (c d : ℕ) → Within (length m) slots → Held m c → Names (slots_of slots c) d → Held (spread slots m) d
  unfolding spread
  spread_lists m c d w h n = spread_from_lists m (length m) m c d (inside m c h) h n (names_within (slots_of slots c) d (within_slots slots c w) n)

  closure_grown : {P : ℕ → Type 0} (k : ℕ) (m : List ℕ) → Closed slots P → Only P m → Grown P m (closure k slots m)
  unfolding closure
  closure_grown zero m closed o = grown_refl
  closure_grown (suc k) m closed o = grown_trans (spread_grown m closed o) (closure_grown k (spread slots m) closed ((spread_grown m closed o).only o))

  -- after as many rounds as there are unmarked cells the marks are closed: a round that marks nothing new has closed them
  closure_closed : (k : ℕ) (m : List ℕ) → Within (length m) slots → Bits m → length m ≤ k + occ 1 m → Closed slots (Held (closure k slots m))
  unfolding closure
  closure_closed zero m w b full = λ c d h n. elim (ℕ_discrete (get_or m d 0) 1) [
    | yes e ↦ omega arith
    | no f ↦ absurd (omega (arith, occ_room 1 m d (names_within (slots_of slots c) d (within_slots slots c w) n) f))
  ]
  closure_closed (suc k) m w b full =
      let s : List ℕ = spread slots m in
      let g : Grown Any m s = spread_grown m (λ _ _ _ _. tt) (λ _ _. tt) in
      elim (dec_lt (occ 1 m) (occ 1 s)) [
        | yes l ↦ closure_closed k s (subst (λ (x : ℕ). Within x slots) (sym g.len) w) (g.bits b) (omega (arith, g.len))
        | no f ↦
            let back : Only (Held m) s = λ d h. elim (ℕ_discrete (get_or m d 0) 1) [
              | yes e ↦ omega arith
              | no u ↦ absurd (f (occ_grows 1 m s g.len (bit_kept m s (g.bits b) g.keeps) d (omega (arith, inside s d h, g.len)) u (omega (arith, g.bits b d))))
            ] in
            let closed : Closed slots (Held m) = λ c d h n. back d (spread_lists m c d w h n) in
            let r : Grown (Held m) s (closure k slots s) = closure_grown k s closed back in
            λ c d h n. r.keeps d (g.keeps d (closed c d (r.only back c h) n))
      ]

-- ---- what `mark_from` makes of marks and a table of references: the marks and the seeds, closed, and no more than that

module _ (slots m table : List ℕ) where
  seeds : Grown Any m (mark m table)
  seeds = mark_grown table m (λ _ _. tt)

  rounds_grown : Grown Any (mark m table) (mark_from slots m table)
  unfolding mark_from
  rounds_grown = closure_grown slots (length m) (mark m table) (λ _ _ _ _. tt) (λ _ _. tt)

  pub closure-length : length (mark_from slots m table) ≡ length m
  closure-length = rounds_grown.len ∙ seeds.len

  pub closure_keeps : (d : ℕ) → Held m d → Held (mark_from slots m table) d
  closure_keeps d h = rounds_grown.keeps d (seeds.keeps d h)

  pub closure_lists : Within (length m) table → (d : ℕ) → Names table d → Held (mark_from slots m table) d
  closure_lists w d n = rounds_grown.keeps d (mark_lists table m d n (names_within table d w n))

  pub closure_settled : Within (length m) slots → Bits m → ClosedMarks slots (mark_from slots m table)
  unfolding mark_from
  closure_settled w b = record {
    bits = rounds_grown.bits (seeds.bits b);
    closed = closure_closed slots (length m) (mark m table) (subst (λ (x : ℕ). Within x slots) (sym seeds.len) w) (seeds.bits b) (omega (arith, seeds.len));
  }

  pub closure_least : {P : ℕ → Type 0} → Closed slots P → Only P m → ((d : ℕ) → Names table d → P d) → Only P (mark_from slots m table)
  unfolding mark_from
  closure_least closed o p = let s = (mark_grown table m p).only o in (closure_grown slots (length m) (mark m table) closed s).only s

  -- marks that hold the seeds, are closed, and lie within the closure, are the closure
  pub closure_unique : Bits m → (m' : List ℕ) → length m' ≡ length m → ClosedMarks slots m' → ((d : ℕ) → Held m d → Held m' d) → ((d : ℕ) → Names table d → Held m' d)
      → Only (Held (mark_from slots m table)) m' → m' ≡ mark_from slots m table
  closure_unique b m' e s k l o = bits_equal m' (mark_from slots m table) (e ∙ sym closure-length) s.bits (rounds_grown.bits (seeds.bits b)) o (closure_least s.closed k l)

-- no mark at all is settled
pub zeros_settled : {slots : List ℕ} (n : ℕ) → ClosedMarks slots (replicate n 0)
zeros_settled n = record { bits = λ d. omega (arith, get_or-zeros n d); closed = λ c d h _. absurd (omega (arith, get_or-zeros n c)) }
