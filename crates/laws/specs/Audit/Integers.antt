-- An integer is `up` less `down`, of which one is 0: in these the arithmetic of sums is that of natural numbers.
-- Assumes nothing.
use Rattle.std.specs.Prelude.{ℕ, zero, suc, ◌+◌, ◌-◌, ◌≤◌, ◌<◌, Bool, true, false, cond, ◌≡◌, refl, ltb, ℤ, pos, negsuc, ◌+ℤ◌, ◌-ℤ◌}
use Rattle.std.proofs.Common.{arith, ltb-true, ltb-false}
use Rattle.std.proofs.Math.IntN.{sub_ℕ}
use Rattle.rules.specs.Audit.{up, down}

-- x is a less b
pub record Less (x : ℤ) (a b : ℕ) : Type 0 where
  pub is : up x + b ≡ down x + a
  pub over : up x ≤ a
  pub missing : down x ≤ b

less_sub : (a b : ℕ) → Less (sub_ℕ a b) a b
less_sub a b = go (ltb a b) refl
  where
    go : (t : Bool) → ltb a b ≡ t → Less (cond t (negsuc (b - suc a)) (pos (a - b))) a b
    go true e =
        let l : a < b = ltb-true a b e in
        record { is = omega arith; over = omega arith; missing = omega arith }
    go false e =
        let l : b ≤ a = ltb-false a b e in
        record { is = omega arith; over = omega arith; missing = omega arith }

pub less_difference : (a b : ℕ) → Less (pos a -ℤ pos b) a b
less_difference a zero = record { is = omega arith; over = omega arith; missing = omega arith }
less_difference a (suc b) = less_sub a (suc b)

less_same : {x : ℤ} {a b : ℕ} (c d : ℕ) → Less x a b → c ≡ a → d ≡ b → Less x c d
less_same c d l e f = record { is = omega (arith, l.is); over = omega (arith, l.over); missing = omega (arith, l.missing) }

-- a sum
pub less_sum : (x y : ℤ) → Less (x +ℤ y) (up x + up y) (down x + down y)
less_sum (pos a) (pos b) = record { is = omega arith; over = omega arith; missing = omega arith }
less_sum (pos a) (negsuc b) = less_same (a + 0) (0 + suc b) (less_sub a (suc b)) (omega arith) (omega arith)
less_sum (negsuc a) (pos b) = less_same (0 + b) (suc a + 0) (less_sub b (suc a)) (omega arith) (omega arith)
less_sum (negsuc a) (negsuc b) = record { is = omega arith; over = omega arith; missing = omega arith }

pub less_plus : (x y : ℤ) {a b c d : ℕ} → Less x a b → Less y c d → Less (x +ℤ y) (a + c) (b + d)
less_plus x y l m =
    let s = less_sum x y in
    record {
      is = omega (arith, s.is, l.is, m.is);
      over = omega (arith, s.over, l.over, m.over);
      missing = omega (arith, s.missing, l.missing, m.missing);
    }
