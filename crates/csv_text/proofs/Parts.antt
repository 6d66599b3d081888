-- Lines and fields, from their first byte on. Assumes nothing.
use Prim.Native.Nat.{ℕ}
use mathlib.Core.Path.{◌≡◌, refl, ◌∙◌}
use mathlib.Core.List.{List, [], ◌∷◌}
use mathlib.Core.Bool.{Bool, true, false, ◌&&◌, cond}
use lib.Dec.{eqb}
use borrow.Author.Tests.{ne_eqb}
use Rattle.csv_text.specs.Lines.{onto_first, lines_of, fields_of}

pub fields_comma : (l : List ℕ) → fields_of (44 ∷ l) ≡ [] ∷ fields_of l
unfolding fields_of
fields_comma l = refl

pub fields_other : (b : ℕ) (l : List ℕ) → (b ≡ 44 → ⊥) → fields_of (b ∷ l) ≡ onto_first b (fields_of l)
unfolding fields_of
fields_other b l h = rw (ne_eqb b 44 h, fields_of)

-- a first part and the rest
pub record Some (fs : List (List ℕ)) : Type 0 where
  pub head : List ℕ
  pub tail : List (List ℕ)
  pub split : fs ≡ head ∷ tail

onto_some : (b : ℕ) (fs : List (List ℕ)) → Some (onto_first b fs)
unfolding onto_first
onto_some b [] = record { head = b ∷ []; tail = []; split = refl }
onto_some b (f ∷ fs) = record { head = b ∷ f; tail = fs; split = refl }

-- a line has a field
pub fields_some : (l : List ℕ) → Some (fields_of l)
unfolding fields_of
fields_some [] = record { head = []; tail = []; split = refl }
fields_some (b ∷ l) = go (eqb b 44)
  where
    go : (t : Bool) → Some (cond t ([] ∷ fields_of l) (onto_first b (fields_of l)))
    go true = record { head = []; tail = fields_of l; split = refl }
    go false = onto_some b (fields_of l)

pub lines_cons : (b c : ℕ) (s : List ℕ) → lines_of (b ∷ (c ∷ s)) ≡ cond (eqb b 13 && eqb c 10) ([] ∷ lines_of s) (onto_first b (lines_of (c ∷ s)))
unfolding lines_of
lines_cons b c s = refl

pub lines_other : (b : ℕ) (r : List ℕ) → (b ≡ 13 → ⊥) → lines_of (b ∷ r) ≡ onto_first b (lines_of r)
unfolding onto_first lines_of
lines_other b [] h = refl
lines_other b (c ∷ s) h = lines_cons b c s ∙ rw (ne_eqb b 13 h)

-- a CR with no LF after it is part of its line
pub lines_lone : (c : ℕ) (s : List ℕ) → (c ≡ 10 → ⊥) → lines_of (13 ∷ (c ∷ s)) ≡ onto_first 13 (lines_of (c ∷ s))
lines_lone c s h = lines_cons 13 c s ∙ rw (ne_eqb c 10 h)

pub lines_some : (b : ℕ) (r : List ℕ) → Some (lines_of (b ∷ r))
unfolding lines_of
lines_some b [] = record { head = b ∷ []; tail = []; split = refl }
lines_some b (c ∷ s) = go (eqb b 13 && eqb c 10)
  where
    go : (t : Bool) → Some (cond t ([] ∷ lines_of s) (onto_first b (lines_of (c ∷ s))))
    go true = record { head = []; tail = lines_of s; split = refl }
    go false = onto_some b (lines_of (c ∷ s))
