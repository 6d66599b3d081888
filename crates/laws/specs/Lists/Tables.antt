-- Tables that read as 0 beyond their end: entries inside, one entry written, a run of zeros written.
-- Assumes nothing.
use Rattle.std.specs.Prelude.{ℕ, zero, suc, ◌+◌, ◌*◌, ◌≤◌, ◌<◌, List, [], ◌∷◌, ◌≢◌, ◌⊎◌, ◌≡◌, refl, length, get_or, drop, set, replicate}
use Rattle.std.proofs.Math.Decide.{ℕ_discrete, dec_lt}
use Rattle.std.proofs.Common.{add-zero, add-one, arith, inl, inr, ⊎_elim, sym, ap, ◌∙◌, length-take, length-drop, drop-cons, get_or-take, get_or-drop, get_or-set_other}
use Rattle.std.proofs.Math.Logic.{by_cases}
use Rattle.std.proofs.Math.Path.{subst⁻¹}
use Rattle.std.proofs.lemmas.List.Edits.{sets}
use Rattle.rules.specs.Heap.{slots_of}

-- what holds of c and of every other number holds of every number
pub by_cell : {P : ℕ → Type 0} (c : ℕ) → P c → ((d : ℕ) → d ≢ c → P d) → (d : ℕ) → P d
by_cell {P} c here there d = elim (ℕ_discrete d c) [ yes e ↦ subst⁻¹ P e here | no n ↦ there d n ]

-- a positive entry stands inside its table
pub inside : (l : List ℕ) (i : ℕ) → 1 ≤ get_or l i 0 → i < length l
inside [] i h = omega arith
inside (x ∷ l) zero h = omega arith
inside (x ∷ l) (suc i) h = omega (arith, inside l i h)

pub get_or-zeros : (n i : ℕ) → get_or {A = ℕ} (replicate n 0) i 0 ≡ 0
get_or-zeros zero i = refl
get_or-zeros (suc n) zero = refl
get_or-zeros (suc n) (suc i) = get_or-zeros n i

-- what is left of a table from entry i on: the entry, and the rest
pub drop-next : (l : List ℕ) (i : ℕ) → i < length l → drop i l ≡ get_or l i 0 ∷ drop (i + 1) l
drop-next l i m = rw (add-one, drop-cons l i 0)

-- ---- one entry written

-- a written entry holds what was written, and every other one what it held
pub set_cases : (l : List ℕ) (c v d : ℕ) → ((d ≡ c) × (get_or (set l c v) d 0 ≡ v)) ⊎ (get_or (set l c v) d 0 ≡ get_or l d 0)
set_cases [] c v d = inr refl
set_cases (x ∷ l) zero v zero = inl (refl, refl)
set_cases (x ∷ l) zero v (suc d) = inr refl
set_cases (x ∷ l) (suc c) v zero = inr refl
set_cases (x ∷ l) (suc c) v (suc d) = ⊎_elim (λ p. inl (ap suc p.0, p.1)) inr (set_cases l c v d)

-- a 0 written is read back, inside the table or beyond its end
pub set_here : (l : List ℕ) (c : ℕ) → get_or (set l c 0) c 0 ≡ 0
set_here [] c = refl
set_here (x ∷ l) zero = refl
set_here (x ∷ l) (suc c) = set_here l c

-- writing what stands there changes nothing
pub set_same : (l : List ℕ) (c v : ℕ) → get_or l c 0 ≡ v → (d : ℕ) → get_or (set l c v) d 0 ≡ get_or l d 0
set_same l c v e d = ⊎_elim (λ w. w.1 ∙ sym (ap (λ (x : ℕ). get_or l x 0) w.0 ∙ e)) (λ s. s) (set_cases l c v d)

-- ---- a run of k zeros written from entry i on

pub zeros_out : (k : ℕ) (l : List ℕ) (i j : ℕ) → (j < i) ⊎ (i + k ≤ j) → get_or (sets l i (replicate k 0)) j 0 ≡ get_or l j 0
zeros_out zero l i j o = refl
zeros_out (suc k) l i j (inl b) = zeros_out k (set l i 0) (suc i) j (inl (omega arith)) ∙ get_or-set_other l i j 0 0 (omega arith)
zeros_out (suc k) l i j (inr b) = zeros_out k (set l i 0) (suc i) j (inr (omega arith)) ∙ get_or-set_other l i j 0 0 (omega arith)

pub zeros_in : (k : ℕ) (l : List ℕ) (i j : ℕ) → i ≤ j → j < i + k → get_or (sets l i (replicate k 0)) j 0 ≡ 0
zeros_in zero l i j a b = absurd (omega arith)
zeros_in (suc k) l i j a b =
    by_cases (ℕ_discrete j i)
    (λ e. zeros_out k (set l i 0) (suc i) j (inl (omega arith)) ∙ (rw e (set_here l i)))
    (λ n. zeros_in k (set l i 0) (suc i) j (omega arith) (omega arith))

-- one more zero at its end
pub zeros_more : (k : ℕ) (l : List ℕ) (i : ℕ) → set (sets l i (replicate k 0)) (i + k) 0 ≡ sets l i (replicate (suc k) 0)
zeros_more zero l i = rw add-zero
zeros_more (suc k) l i =
    let e : i + suc k ≡ suc i + k = omega arith in
    ap (λ (j : ℕ). set (sets l i (replicate (suc k) 0)) j 0) e ∙ zeros_more k (set l i 0) (suc i)

-- ---- the eight slots of a cell

-- in the cell's own list and in the whole table
pub slot_entry : (slots : List ℕ) (c i : ℕ) → i < 8 → get_or (slots_of slots c) i 0 ≡ get_or slots (8 * c + i) 0
unfolding slots_of
slot_entry slots c i h = get_or-take 8 (drop (8 * c) slots) i 0 h ∙ get_or-drop (8 * c) slots i 0

pub slots_most : (slots : List ℕ) (c : ℕ) → length (slots_of slots c) ≤ 8
unfolding slots_of
slots_most slots c = omega (arith, length-take 8 (drop (8 * c) slots))

pub slots_length_lem : (slots : List ℕ) (c n : ℕ) → length slots ≡ 8 * n → c < n → length (slots_of slots c) ≡ 8
unfolding slots_of
slots_length_lem slots c n e h = omega (arith, length-take 8 (drop (8 * c) slots), length-drop (8 * c) slots)

-- another cell's eight slots lie before or behind
pub apart : (x c s : ℕ) → s < 8 → x ≢ c → (8 * x + s < 8 * c) ⊎ (8 * c + 8 ≤ 8 * x + s)
apart x c s b n = by_cases (dec_lt x c) (λ l. inl (omega arith)) (λ g. inr (omega arith))
