-- Laws of the rescue: one cell gets flags 1 or none, cell after cell; the cells to come keep their flags.
-- Assumes nothing.
use Prim.Native.Nat.{ℕ, ◌+◌, ◌≤◌}
use native.Mathlib.Omega.{arith}
use mathlib.Core.List.{List, [], ◌++◌}
use mathlib.Core.Bool.{Bool, true, false, ◌&&◌}
use mathlib.Core.Logic.{◌≢◌}
use mathlib.Core.Path.{◌≡◌, refl, sym, ap, subst, ◌∙◌}
use lib.Dec.{eqb}
use lib.ListN.{length, get_or, set}
use borrow.Author.Tests.{eq-eqb, ne_eqb}
use Rattle.rules.specs.Lists.{select}
use Rattle.rules.specs.Heap.{Heap, tables, set_flags}
use Rattle.rules.specs.Collect.{rescue_all}
use Rattle.laws.specs.Lists.Select.{select_only, select_next, select_new}
use Rattle.laws.specs.Collect.Phases.{rescued_all}
use Rattle.laws.specs.Collect.Phases as phases
use Rattle.laws.specs.Collect.Append.{rescue_append}
use Rattle.sweep.specs.Phases.{is_rescued, rescued_of, only, Restored, Decided}

pub rescued_none : {f : List ℕ} (c : ℕ) {b : Bool} → b ≡ false → Restored f (only b c) f
unfolding rescue_all
rescued_none c e = record { heap = λ k n s t q w. rw e refl }

pub rescued_one : {f f' : List ℕ} (c : ℕ) {b : Bool} → b ≡ true → f' ≡ set f c 1 → Restored f (only b c) f'
unfolding rescue_all set_flags
rescued_one c e ef = record { heap = λ k n s t q w. rw e (λ i. tables k (ef i) n s t q w) }

pub rescued_start : {f : List ℕ} (p : ℕ → Bool) → Restored f (select p 0) f
unfolding rescue_all select
rescued_start p = record { heap = λ k n s t q w. refl }

rescued_then : {f f' f'' : List ℕ} (l m : List ℕ) → Restored f l f' → Restored f' m f'' → Restored f (l ++ m) f''
rescued_then {f} l m a b = record { heap = λ k n s t q w. b.heap k n s t q w ∙ ap (λ (h : Heap). rescue_all h m) (a.heap k n s t q w) ∙ sym (rescue_append (tables k f n s t q w) l m) }

-- cells below c were rescued where they pass
module _ {f f' : List ℕ} (m : List ℕ) (c : ℕ) (inside : c ≤ length f) (a : Restored f (select (is_rescued f m) c) f') where
  h : Heap
  h = tables [] f [] [] [] [] []

  saved : phases.Rescued h (rescue_all h (select (is_rescued f m) c)) (select (is_rescued f m) c)
  unfolding h
  saved = rescued_all h (select (is_rescued f m) c) (λ x o. omega (arith, (select_only (is_rescued f m) c x o).0))

  is : tables [] f' [] [] [] [] [] ≡ rescue_all h (select (is_rescued f m) c)
  unfolding h
  is = a.heap [] [] [] [] [] []

  kept : get_or f' c 0 ≡ get_or f c 0
  unfolding h
  kept = ap (λ (g : Heap). get_or g.flags c 0) is ∙ saved.flags_out c (select_new (is_rescued f m) c)

  -- so the test reads what it read at first
  pub rescued_next : {f'' : List ℕ} → Restored f' (only (is_rescued f' m c) c) f'' → Restored f (select (is_rescued f m) (c + 1)) f''
  rescued_next {f''} b =
      let e : is_rescued f' m c ≡ is_rescued f m c = ap (λ (x : ℕ). eqb x 3 && eqb (get_or m c 0) 1) kept in
      let b₁ : Restored f' (only (is_rescued f m c) c) f'' = subst (λ (z : Bool). Restored f' (only z c) f'') e b in
      subst (λ (l : List ℕ). Restored f l f'') (sym (select_next (is_rescued f m) c)) (rescued_then (select (is_rescued f m) c) (only (is_rescued f m c) c) a b₁)

-- where any cells were waiting no cell is rescued, and otherwise all that pass
pub decided_none : (f m : List ℕ) (waiting : ℕ) → waiting ≢ 0 → Decided waiting f m f
unfolding rescue_all
decided_none f m waiting w = record { restored = record { heap = λ k n s t q c. rw (ne_eqb waiting 0 w) refl } }

pub decided_all : {f m f' : List ℕ} (waiting : ℕ) → waiting ≡ 0 → Restored f (rescued_of f m) f' → Decided waiting f m f'
decided_all waiting w a = record { restored = rw (eq-eqb waiting 0 w) a }
