-- Laws of the first round, within a cell: a reference comes off, and one slot after another. Those to come are counted still.
-- Assumes nothing.
use Prim.Native.Nat.{ℕ, suc, ◌+◌, ◌*◌, ◌-◌, ◌≤◌, ◌<◌}
use native.Mathlib.Numerals.{add-one}
use native.Mathlib.Omega.{arith}
use mathlib.Core.List.{List, [], ◌∷◌, ◌++◌}
use mathlib.Core.Logic.{◌≢◌}
use mathlib.Core.Path.{◌≡◌, refl, sym, ap, ◌∙◌}
use lib.ListN.{length, get_or, set, take, drop, length-take, length-drop, take-append-drop}
use lib.Seq.{take-suc, take_all}
use Rattle.rules.specs.Lists.{occ}
use Rattle.rules.specs.Heap.{Heap, tables, count_of, slots_of, set_count}
use Rattle.rules.specs.Release.{decremented}
use Rattle.rules.specs.Collect.{lower_all}
use Rattle.laws.specs.Lists.Tables.{inside, slot_entry, slots_most}
use Rattle.laws.specs.Lists.Occ.{occ-append, occ_one}
use Rattle.laws.specs.Collect.Append.{lower-append}
use Rattle.laws.specs.Collect.Unlinking.{Covered, decremented_one, lowered}
use Rattle.sweep.specs.Phases.{TakenOff}

-- ---- one reference

pub taken_off_empty : {n : List ℕ} (r : ℕ) → r ≡ 0 → TakenOff n (r ∷ []) n
unfolding lower_all
taken_off_empty r e = record { heap = λ k f s t q w. rw e refl }

module _ {n : List ℕ} (r : ℕ) (some : r ≢ 0) (v : Covered n (r ∷ [])) where
  -- the count that it comes off is at least 1, and so stands in the table
  pub count_above_zero : 1 ≤ get_or n (r - 1) 0
  count_above_zero = omega (arith, v.covers (r - 1), occ_one (suc (r - 1)) r (omega arith))

  pub count_inside : r - 1 < length n
  count_inside = inside n (r - 1) count_above_zero

  pub taken_off_one : (m : ℕ) → m + 1 ≡ get_or n (r - 1) 0 → TakenOff n (r ∷ []) (set n (r - 1) m)
  unfolding lower_all set_count
  taken_off_one m e =
      let whole : suc (r - 1) ≡ r = omega arith in
      let less : m ≡ decremented (get_or n (r - 1) 0) = omega (arith, decremented_one (get_or n (r - 1) 0) count_above_zero) in
      record {
        heap = λ k f s t q w.
            (λ i. tables k f (set n (r - 1) (less i)) s t q w)
            ∙ ap (λ (x : ℕ). lower_all (tables k f n s t q w) (x ∷ [])) whole;
      }

-- ---- references, some after others

-- what came off is what the counts lost
taken_off_count : {n n' l : List ℕ} → Covered n l → TakenOff n l n' → (x : ℕ) → get_or n' x 0 + occ (suc x) l ≡ get_or n x 0
taken_off_count {n} {l = l} v a x =
    omega (arith, ap (λ (h : Heap). count_of h x) (a.heap [] [] [] [] [] []), (lowered (tables [] [] n [] [] [] []) l v).count x)

module _ {n : List ℕ} (l m : List ℕ) where
  taken_off_then : {n' n'' : List ℕ} → TakenOff n l n' → TakenOff n' m n'' → TakenOff n (l ++ m) n''
  taken_off_then a b = record {
    heap = λ k f s t q w. b.heap k f s t q w ∙ ap (λ (h : Heap). lower_all h m) (a.heap k f s t q w) ∙ sym (lower-append (tables k f n s t q w) l m);
  }

  covered_front : Covered n (l ++ m) → Covered n l
  covered_front v = record { covers = λ x. omega (arith, v.covers x, occ-append (suc x) l m) }

  covered_then : {n' : List ℕ} → Covered n (l ++ m) → TakenOff n l n' → Covered n' m
  covered_then v a = record { covers = λ x. omega (arith, v.covers x, occ-append (suc x) l m, taken_off_count (covered_front v) a x) }

-- ---- the slots of a cell

pub taken_off_start : {n : List ℕ} (l : List ℕ) → TakenOff n (take 0 l) n
unfolding lower_all
taken_off_start l = record { heap = λ k f s t q w. refl }

-- entry i of the table, as it stands, is the slot after the first j
module _ {now : List ℕ} (slots : List ℕ) (same : now ≡ slots) (c j i : ℕ) (room : 8 * c + 8 ≤ length slots) (below : j < 8) (is : i ≡ 8 * c + j) where
  slot_next : take (j + 1) (slots_of slots c) ≡ take j (slots_of slots c) ++ (get_or now i 0 ∷ [])
  unfolding slots_of
  slot_next =
      ap (λ (x : ℕ). take x (slots_of slots c)) (add-one j)
      ∙ take-suc (slots_of slots c) j 0 (omega (arith, length-take 8 (drop (8 * c) slots), length-drop (8 * c) slots))
      ∙ ap (λ (x : ℕ). take j (slots_of slots c) ++ (x ∷ [])) (slot_entry slots c j below ∙ ap (λ (x : ℕ). get_or slots x 0) (sym is) ∙ ap (λ (l : List ℕ). get_or l i 0) (sym same))

  pub taken_off_next : {n n' n'' : List ℕ} → TakenOff n (take j (slots_of slots c)) n' → TakenOff n' (get_or now i 0 ∷ []) n''
      → TakenOff n (take (j + 1) (slots_of slots c)) n''
  taken_off_next a b = rw slot_next (taken_off_then (take j (slots_of slots c)) (get_or now i 0 ∷ []) a b)

  pub covered_next : {n n' : List ℕ} → Covered n (slots_of slots c) → TakenOff n (take j (slots_of slots c)) n' → Covered n' (get_or now i 0 ∷ [])
  covered_next {n} v a =
      let front : Covered n (take (j + 1) (slots_of slots c)) =
      covered_front (take (j + 1) (slots_of slots c)) (drop (j + 1) (slots_of slots c)) (rw take-append-drop v) in
      covered_then (take j (slots_of slots c)) (get_or now i 0 ∷ []) (rw slot_next at front) a

pub taken_off_all : {n n' : List ℕ} (slots : List ℕ) (c j : ℕ) → 8 ≤ j → TakenOff n (take j (slots_of slots c)) n' → TakenOff n (slots_of slots c) n'
taken_off_all slots c j b a = rw (take_all j (slots_of slots c) (omega (arith, slots_most slots c))) at a
