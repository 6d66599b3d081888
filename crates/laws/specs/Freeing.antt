-- The freeing step: what it writes on any tables, and that a cell is all zeros after it where the slots of strings and buffers were empty.
-- Assumes nothing.
use Rattle.std.specs.Prelude.{ℕ, ◌+◌, ◌*◌, ◌-◌, ◌≤◌, ◌<◌, List, true, false, ◌⊎◌, ◌≢◌, ◌≡◌, refl, eqb, length, get_or, set, replicate}
use Rattle.std.proofs.Math.Decide.{dec_lt}
use Rattle.std.proofs.Common.{arith, inl, inr, ⊎_elim, sym, ap, ◌∙◌, eqb-true, get_or-set_other, ext_get_or}
use Rattle.std.proofs.Math.Logic.{by_cases}
use Rattle.std.proofs.Math.Seq.{length-sets}
use Rattle.rules.specs.Heap.{Heap, kind_of, slot_of, slots_of, plain, emptied, wiped_slots, wipe}
use Rattle.rules.specs.Sound.{EmptySlots}
use Rattle.rules.specs.Freeing.{zeroed_with, zeroed, StringOrBuffer, FreeingStep}
use Rattle.laws.specs.Lists.Tables.{set_here, zeros_in, zeros_out, slot_entry, slots_most, apart}
use Rattle.laws.specs.Lists.Tests.{split}
use Rattle.laws.specs.Sound.But.{PlainSlots}

-- ---- the kinds

pub kinds_plain : (k : ℕ) → (k ≡ 2) ⊎ (k ≡ 3) → plain k ≡ true
unfolding plain
kinds_plain k (inl e) = ap plain e
kinds_plain k (inr e) = ap plain e

pub plain_kinds : (k : ℕ) → plain k ≡ true → (k ≡ 2) ⊎ (k ≡ 3)
unfolding plain
plain_kinds k e = ⊎_elim (λ two. inl (eqb-true k 2 two)) (λ other. inr (eqb-true k 3 (rw other at e))) (split (eqb k 2))

pub plain_between : (k : ℕ) → (k ≡ 2) ⊎ (k ≡ 3) → (2 ≤ k) × (k ≤ 3)
plain_between k (inl e) = (omega arith, omega arith)
plain_between k (inr e) = (omega arith, omega arith)

-- ---- on any tables

-- the slots of a string or buffer stay as they were
pub slots_spared : (k : ℕ) (slots : List ℕ) (c : ℕ) → plain k ≡ true → wiped_slots k slots c ≡ slots
slots_spared k slots c e = rw e refl

pub slots_emptied : (k : ℕ) (slots : List ℕ) (c : ℕ) → plain k ≡ false → wiped_slots k slots c ≡ emptied slots c
slots_emptied k slots c e = rw e refl

-- the slots keep their number
pub wiped_length : (k : ℕ) (slots : List ℕ) (c : ℕ) → length (wiped_slots k slots c) ≡ length slots
wiped_length k slots c =
    ⊎_elim (λ e. ap length (slots_spared k slots c e)) (λ e. ap length (slots_emptied k slots c e) ∙ length-sets slots (8 * c) (replicate 8 0)) (split (plain k))

-- and those of other cells stay
pub wiped_out : (k : ℕ) (slots : List ℕ) (c d j : ℕ) → j < 8 → d ≢ c → get_or (wiped_slots k slots c) (8 * d + j) 0 ≡ get_or slots (8 * d + j) 0
wiped_out k slots c d j b n =
    ⊎_elim
    (λ e. ap (λ (s : List ℕ). get_or s (8 * d + j) 0) (slots_spared k slots c e))
    (λ e. ap (λ (s : List ℕ). get_or s (8 * d + j) 0) (slots_emptied k slots c e) ∙ zeros_out 8 slots (8 * c) (8 * d + j) (apart d c j b n))
    (split (plain k))

-- ---- where the slots of strings and buffers are empty

-- slots that are empty stay as they are when they are emptied
emptied_same : (slots : List ℕ) (c : ℕ) → ((j : ℕ) → j < 8 → get_or slots (8 * c + j) 0 ≡ 0) → emptied slots c ≡ slots
emptied_same slots c none =
    ext_get_or 0 (emptied slots c) slots (length-sets slots (8 * c) (replicate 8 0)) (λ i b. at i)
  where
    at : (i : ℕ) → get_or (emptied slots c) i 0 ≡ get_or slots i 0
    at i =
        by_cases (dec_lt i (8 * c))
        (λ l. zeros_out 8 slots (8 * c) i (inl l))
        (λ g.
        by_cases (dec_lt i (8 * c + 8))
        (λ l.
        let e : i ≡ 8 * c + (i - 8 * c) = omega arith in
        zeros_in 8 slots (8 * c) i (omega arith) l ∙ sym (ap (λ (k : ℕ). get_or slots k 0) e ∙ none (i - 8 * c) (omega arith)))
        (λ m. zeros_out 8 slots (8 * c) i (inr (omega arith))))

pub wipe_empty : (h : Heap) (c : ℕ) → (StringOrBuffer h c → EmptySlots h c) → wipe h c ≡ zeroed h c
unfolding wipe
wipe_empty h c empty i = zeroed_with h c (slots i)
  where
    slots : wiped_slots (kind_of h c) h.slots c ≡ emptied h.slots c
    slots =
        ⊎_elim
        (λ e. slots_spared (kind_of h c) h.slots c e ∙ sym (emptied_same h.slots c (empty (plain_kinds (kind_of h c) e))))
        (slots_emptied (kind_of h c) h.slots c)
        (split (plain (kind_of h c)))

pub wipe_plain : (h : Heap) (c : ℕ) → PlainSlots h.kind h.slots → wipe h c ≡ zeroed h c
wipe_plain h c empty = wipe_empty h c (λ p j b. empty c j b (plain_between (kind_of h c) p).0)

-- so the cell's own slots are 0
pub wiped_in : (h : Heap) (c : ℕ) → PlainSlots h.kind h.slots → (j : ℕ) → j < 8 → slot_of (wipe h c) c j ≡ 0
wiped_in h c empty j b = ap (λ (g : Heap). slot_of g c j) (wipe_plain h c empty) ∙ zeros_in 8 h.slots (8 * c) (8 * c + j) (omega arith) (omega arith)

-- a string or buffer has no references to take off
pub plain_none : (kind slots : List ℕ) (c : ℕ) → PlainSlots kind slots → plain (get_or kind c 0) ≡ true
    → (i : ℕ) → i < length (slots_of slots c) → get_or (slots_of slots c) i 0 ≡ 0
plain_none kind slots c empty e i b =
    let i8 : i < 8 = omega (arith, slots_most slots c) in
    slot_entry slots c i i8 ∙ empty c i i8 (plain_between (get_or kind c 0) (plain_kinds (get_or kind c 0) e)).0

-- a cell that becomes free is neither a string nor a buffer
pub plain_kept : (h : Heap) (c : ℕ) → PlainSlots h.kind h.slots → PlainSlots (wipe h c).kind (wipe h c).slots
unfolding wipe
plain_kept h c empty d j b u =
    let n : d ≢ c = λ e. omega (arith, ap (λ (x : ℕ). get_or (set h.kind c 0) x 0) e, set_here h.kind c) in
    wiped_out (kind_of h c) h.slots c d j b n ∙ empty d j b (omega (arith, get_or-set_other h.kind c d 0 0 n))

pub freeing_step : FreeingStep
unfolding wipe
freeing_step = record {
  spares = λ h c p i. zeroed_with h c (slots_spared (kind_of h c) h.slots c (kinds_plain (kind_of h c) p) i);
  empties = wipe_empty;
}
