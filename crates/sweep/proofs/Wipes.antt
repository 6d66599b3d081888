-- Laws of the second round: one cell after another becomes free and is listed.
-- Assumes nothing.
use Prim.Native.Nat.{ℕ, suc, ◌+◌, ◌≤◌, ◌<◌}
use native.Mathlib.Numerals.{add-one}
use native.Mathlib.Omega.{arith}
use mathlib.Core.List.{List, [], ◌∷◌, ◌++◌, map, map-append, append_assoc}
use mathlib.Core.Bool.{Bool}
use mathlib.Core.Path.{◌≡◌, refl, sym, ap, subst, subst⁻¹, ◌∙◌}
use lib.ListN.{length, take, set, length-append}
use lib.Seq.{take-suc-set}
use Rattle.numbers.specs.declared.cell.Cell.{Cell}
use Rattle.rules.specs.Lists.{select}
use Rattle.rules.specs.Heap.{Heap, cells, wipe}
use Rattle.rules.specs.Words.{bits_of}
use Rattle.rules.specs.Collect.{wipe_all}
use Rattle.laws.specs.Lists.Select.{select_only, select_once, select_passing}
use Rattle.laws.specs.Lists.Pigeonhole.{pigeonhole}
use Rattle.laws.specs.Collect.Wiping.{Wiped, wiped}
use Rattle.laws.specs.Collect.Append.{wipe-append}
use Rattle.sweep.specs.Phases.{is_garbage, Same, Lists, Freed}
use Rattle.sweep.proofs.Searches.{Turn}

-- as many cells, and a table of the same length
pub lists_on : {listed : Bool} {n n' : ℕ} {l l' : List ℕ} → n' ≡ n → length l' ≡ length l → Lists listed n l → Lists listed n' l'
lists_on cells size a = record { room = λ is. omega (arith, a.room is); asked = λ fits. a.asked (omega arith) }

-- the cell's reference is written at the list's end e, if the table has room for every cell
pub freed_one : {h g : Heap} (c : ℕ) {l l' : List ℕ} {e : ℕ} → g ≡ wipe h c → (cells h ≤ length l → l' ≡ set l e (c + 1)) → e ≤ c → c < cells h
    → Freed h (c ∷ []) g l e l' (e + 1)
unfolding wipe_all
freed_one c {l} {l'} {e} free written few inside = record {
  heap = free;
  many = refl;
  listed = λ room.
      ap (take (e + 1)) (written room) ∙ (λ j. take (add-one e j) (set l e (add-one c j))) ∙ take-suc-set l e (suc c) (omega arith);
}

pub freed_start : {h : Heap} (p : ℕ → Bool) (l : List ℕ) → Freed h (select p 0) h l 0 l 0
unfolding wipe_all select
freed_start p l = record { heap = refl; many = refl; listed = λ room. refl }

freed_then : {h g k : Heap} {l₀ l₁ l₂ : List ℕ} {e r d : ℕ} (l m : List ℕ) → cells g ≡ cells h → length l₁ ≡ length l₀ → Freed h l g l₀ e l₁ r → Freed g m k l₁ r l₂ d
    → Freed h (l ++ m) k l₀ e l₂ d
freed_then {h} {l₀ = l₀} {e = e} l m size room a b = record {
  heap = b.heap ∙ ap (λ (k : Heap). wipe_all k m) a.heap ∙ sym (wipe-append h l m);
  many = omega (arith, a.many, b.many, length-append l m);
  listed = λ fits. b.listed (omega arith) ∙ ap (λ (x : List ℕ). x ++ map suc m) (a.listed fits) ∙ append_assoc (take e l₀) (map suc l) (map suc m)
      ∙ ap (λ (x : List ℕ). take e l₀ ++ x) (sym (map-append suc l m));
}

-- the garbage below `from` was wiped and listed: no more cells than were looked at
pub freed_few : {h g : Heap} (m : List ℕ) {l₀ l₁ : List ℕ} {from r : ℕ} → Freed h (select (is_garbage h.kind m) from) g l₀ 0 l₁ r → r ≤ from
freed_few {h} m {from = from} a =
    omega (
      arith,
      a.many,
      pigeonhole from (select (is_garbage h.kind m) from) (select_once (is_garbage h.kind m) from)
          (λ z o. (select_only (is_garbage h.kind m) from z o).0),
    )

-- every cell was looked at
pub all_freed : {h g : Heap} {l m l₀ l₁ : List ℕ} {r end : ℕ} → Freed h l g l₀ 0 l₁ r → l ≡ m → end ≡ r → Freed h m g l₀ 0 l₁ end
all_freed {h} {g} {l₀ = l₀} {l₁} {r} a e at = rw at (subst (λ (l : List ℕ). Freed h l g l₀ 0 l₁ r) e a)

-- ---- a turn of the loop

abbrev pub garbage_in : Heap → List ℕ → ℕ → Bool
garbage_in h marked = is_garbage h.kind (bits_of (cells h) marked)

module _ {h g : Heap} {used marked l₀ l₁ : List ℕ} {from r : ℕ} {cell : Cell} {rest : List ℕ} (t : Turn h.kind used marked from cell rest)
    (a : Freed h (select (garbage_in h marked) from) g l₀ 0 l₁ r) where
  below : Freed h (select (garbage_in h marked) cell.0) g l₀ 0 l₁ r
  below = rw t.garbage_passed a

  gone : Wiped h g (select (garbage_in h marked) cell.0)
  gone = subst⁻¹ (λ (k : Heap). Wiped h k (select (garbage_in h marked) cell.0)) below.heap (wiped h (select (garbage_in h marked) cell.0))

  -- what the turn asks
  pub as_many : cells g ≡ cells h
  as_many = gone.kind_length

  pub same_left : Same h → Same g
  same_left s = record {
    flags_size = omega (arith, gone.flags_length, s.flags_size, as_many);
    count_size = omega (arith, gone.count_length, s.count_size, as_many);
    slots_size = omega (arith, gone.slots_length, s.slots_size, as_many);
  }

  pub end_few : r ≤ cell.0
  end_few = freed_few (bits_of (cells h) marked) below

  -- what it leaves
  pub cell_freed : {k : Heap} {l₂ : List ℕ} {e d : ℕ} → Freed g (cell.0 ∷ []) k l₁ e l₂ d → e ≡ r → length l₁ ≡ length l₀
      → Freed h (select (garbage_in h marked) (suc cell.0)) k l₀ 0 l₂ d
  cell_freed {k} {l₂} {d = d} b at size = rw (select_passing (garbage_in h marked) cell.0 t.garbage) (freed_then (select (garbage_in h marked) cell.0) (cell.0 ∷ []) as_many size below
      (subst (λ (x : ℕ). Freed g (cell.0 ∷ []) k l₁ x l₂ d) at b))
