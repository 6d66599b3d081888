-- Text put into a buffer: a byte, and a text after a text. Assumes nothing.
use Prim.Native.Nat.{ℕ, suc, ◌+◌}
use native.Mathlib.Omega.{arith}
use mathlib.Core.Path.{◌≡◌, refl, sym, subst, ◌∙◌, ap}
use mathlib.Core.List.{List, [], ◌∷◌, ◌++◌}
use lib.ListN.{length, set, length-append}
use lib.Seq.{sets}
use Rattle.csv_text.specs.Written.{Wrote}

sets-append : (x y l : List ℕ) (at : ℕ) → sets l at (x ++ y) ≡ sets (sets l at x) (at + length x) y
sets-append [] y l at = let same : at + 0 ≡ at = omega arith in rw same refl
sets-append (b ∷ x) y l at =
    let next : at + length (b ∷ x) ≡ suc at + length x = omega arith in
    rw next (sets-append x y (set l at b) (suc at))

pub wrote_nothing : (l : List ℕ) (at : ℕ) → Wrote l at [] l at
wrote_nothing l at = record { end = omega arith; bytes = refl }

pub wrote_byte : (l : List ℕ) (at b v r : ℕ) → v ≡ b → r ≡ at + 1 → Wrote l at (b ∷ []) (set l at v) r
wrote_byte l at b v r e f = record { end = f; bytes = ap (set l at) e }

-- the same byte, told by another number
pub wrote_same : {l m : List ℕ} {at a b r : ℕ} → Wrote l at (a ∷ []) m r → a ≡ b → Wrote l at (b ∷ []) m r
wrote_same {l} {m} {at} {a} {b} {r} w e = subst (λ (x : ℕ). Wrote l at (x ∷ []) m r) e w

pub wrote_more : (l x m y n : List ℕ) (at r q : ℕ) → Wrote l at x m r → Wrote m r y n q → Wrote l at (x ++ y) n q
wrote_more l x m y n at r q a b = record {
  end = omega (arith, length-append x y, a.end, b.end);
  bytes = b.bytes ∙ ap (λ (k : ℕ). sets m k y) a.end ∙ ap (λ (t : List ℕ). sets t (at + length x) y) a.bytes ∙ sym (sets-append x y l at);
}
