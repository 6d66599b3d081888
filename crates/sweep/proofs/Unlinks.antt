-- Laws of the first round, from cell to cell: the slots of one cell after another come off, and those to come are counted still.
-- Assumes nothing.
use Prim.Native.Nat.{ℕ, suc, ◌+◌, ◌*◌, ◌≤◌, ◌<◌}
use native.Mathlib.Omega.{arith}
use mathlib.Core.List.{List, [], ◌∷◌, ◌++◌}
use mathlib.Core.Bool.{Bool}
use mathlib.Core.Path.{◌≡◌, refl, sym, ap, subst⁻¹, ◌∙◌}
use lib.ListN.{length, get_or}
use Rattle.numbers.specs.declared.cell.Cell.{Cell}
use Rattle.rules.specs.Lists.{select}
use Rattle.rules.specs.Heap.{Heap, tables, cells, kind_of, slots_of}
use Rattle.rules.specs.Words.{bits_of}
use Rattle.rules.specs.Collect.{unlink_all}
use Rattle.laws.specs.Lists.Select.{select_passing, select_rest}
use Rattle.laws.specs.Lists.Tables.{slot_entry, slots_most}
use Rattle.laws.specs.Sound.But.{PlainSlots}
use Rattle.laws.specs.Collect.Append.{unlink_append}
use Rattle.laws.specs.Collect.Unlinking.{Covered, Lowered, lower_none, held_by, held_by_append, SlotsCovered, slots_covered_first, unlinked}
use Rattle.sweep.specs.Phases.{is_garbage, garbage_of, TakenOff}
use Rattle.sweep.proofs.Searches.{Turn}

-- ---- one cell

-- the counts alone change
abbrev pub with_count : Heap → List ℕ → Heap
with_count h n = tables h.kind h.flags n h.slots h.roots h.queue h.control

module _ (h : Heap) (c : ℕ) where
  -- a string or buffer, whose slots are empty
  pub unlinked_plain : PlainSlots h.kind h.slots → 2 ≤ kind_of h c → h ≡ unlink_all h (c ∷ [])
  unfolding unlink_all
  unlinked_plain empty high = sym (lower_none h (slots_of h.slots c) none)
    where
      none : (i : ℕ) → i < length (slots_of h.slots c) → get_or (slots_of h.slots c) i 0 ≡ 0
      none i b =
          let inside : i < 8 = omega (arith, slots_most h.slots c) in
          slot_entry h.slots c i inside ∙ empty c i inside high

  pub unlinked_one : {n : List ℕ} → TakenOff h.count (slots_of h.slots c) n → with_count h n ≡ unlink_all h (c ∷ [])
  unfolding unlink_all
  unlinked_one a = a.heap h.kind h.flags h.slots h.roots h.queue h.control

  pub covered_one : SlotsCovered h.slots h.count (c ∷ []) → Covered h.count (slots_of h.slots c)
  covered_one v = slots_covered_first h c [] v

-- ---- cells, some after others

slots_covered_front : {slots n : List ℕ} (l m : List ℕ) → SlotsCovered slots n (l ++ m) → SlotsCovered slots n l
slots_covered_front {slots} l m v = record { covers = λ x. omega (arith, v.covers x, held_by_append slots l m (suc x)) }

pub unlinked_start : (h : Heap) (p : ℕ → Bool) → h ≡ unlink_all h (select p 0)
unfolding unlink_all select
unlinked_start h p = refl

-- ---- a turn of the loop

abbrev pub garbage_in : Heap → List ℕ → ℕ → Bool
garbage_in h marked = is_garbage h.kind (bits_of (cells h) marked)

module _ (h : Heap) {g : Heap} {used marked : List ℕ} {from : ℕ} {cell : Cell} {rest : List ℕ} (t : Turn h.kind used marked from cell rest)
    (v : SlotsCovered h.slots h.count (garbage_of h.kind (bits_of (cells h) marked)))
    (a : g ≡ unlink_all h (select (garbage_in h marked) from)) where
  with_this : select (garbage_in h marked) (suc cell.0) ≡ select (garbage_in h marked) from ++ (cell.0 ∷ [])
  with_this = select_passing (garbage_in h marked) cell.0 t.garbage ∙ ap (λ (l : List ℕ). l ++ (cell.0 ∷ [])) t.garbage_passed

  -- the references of the cells that were passed, and of this one, are counted
  counted : SlotsCovered h.slots h.count (select (garbage_in h marked) from ++ (cell.0 ∷ []))
  counted =
      let rest = select_rest (garbage_in h marked) (suc cell.0) (cells h) (omega (arith, t.inside)) in
      rw with_this at (slots_covered_front (select (garbage_in h marked) (suc cell.0)) rest.0 (rw rest.1 at v))

  -- what came off is what the counts lost
  lost : Lowered h g (λ x. held_by h.slots (select (garbage_in h marked) from) (suc x))
  lost =
      subst⁻¹ (λ (k : Heap). Lowered h k (λ x. held_by h.slots (select (garbage_in h marked) from) (suc x))) a
      (unlinked h (select (garbage_in h marked) from) (slots_covered_front (select (garbage_in h marked) from) (cell.0 ∷ []) counted))

  -- what the turn asks
  pub cell_stands : cell.0 < cells g
  cell_stands = omega (arith, t.inside, ap length lost.kind)

  pub slots_stand : length h.slots ≡ 8 * cells h → 8 * cell.0 + 8 ≤ length g.slots
  slots_stand size = omega (arith, t.inside, size, ap length lost.slots)

  pub plain_left : PlainSlots h.kind h.slots → PlainSlots g.kind g.slots
  plain_left empty = rw (lost.kind, lost.slots) empty

  pub cell_covered : SlotsCovered g.slots g.count (cell.0 ∷ [])
  cell_covered = rw lost.slots (record {
    covers = λ x. omega (arith, counted.covers x, held_by_append h.slots (select (garbage_in h marked) from) (cell.0 ∷ []) (suc x), lost.count x);
  })

  -- what it leaves
  pub cell_unlinked : {k : Heap} → k ≡ unlink_all g (cell.0 ∷ []) → k ≡ unlink_all h (select (garbage_in h marked) (suc cell.0))
  cell_unlinked b = rw with_this (b ∙ ap (λ (k : Heap). unlink_all k (cell.0 ∷ [])) a ∙ sym (unlink_append h (select (garbage_in h marked) from) (cell.0 ∷ [])))
