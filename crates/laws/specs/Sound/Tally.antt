-- Counting references by one pass over a table, into a tally: entry r counts the reference r, which names cell r - 1. And the laws of such a count.
-- Assumes nothing.
use Rattle.std.specs.Prelude.{ℕ, zero, suc, ◌+◌, ◌≤◌, ◌<◌, ◌-◌, List, [], ◌∷◌, ◌++◌, Bool, true, false, cond, ◌≡◌, refl, leb, eqb, length, get_or, take, drop, set}
use Rattle.std.proofs.Common.{arith, ⊎_elim, ◌∙◌, ap, length-set, length-append, take-add, get_or-set_same, get_or-set_other, leb-true, le-leb, eqb-true}
use Rattle.std.proofs.Math.Decide.{ℕ_discrete}
use Rattle.std.proofs.Math.Logic.{by_cases}
use Rattle.std.proofs.lemmas.Bool.{lt-leb}
use Rattle.rules.specs.Lists.{all, occ, dangling}
use Rattle.laws.specs.Lists.Tests.{split, all_at}
use Rattle.laws.specs.Lists.Occ.{occ_nil, occ_one, occ_other, occ-append, occ_none, occ-length}

-- how many cells a tally counts: entry 0 is for the empty references
abbrev pub counters : List ℕ → ℕ
counters tally = length tally - 1

-- `after` is the tally `before` with the references l counted. Those that have no entry are left out; empty ones may be, so of entry 0 it is only said how far it can rise.
pub record Tallied (before l after : List ℕ) : Type 0 where
  pub size : length after ≡ length before
  pub at : (x : ℕ) → 1 ≤ x → x < length before → get_or after x 0 ≡ get_or before x 0 + occ x l
  pub most : (x : ℕ) → get_or after x 0 ≤ get_or before x 0 + length l

-- there is an entry for the empty references, and every entry has room for k more in 16 bits
pub record TallyRoom (tally : List ℕ) (k : ℕ) : Type 0 where
  pub some : 1 ≤ length tally
  pub fits16 : (x : ℕ) → get_or tally x 0 + k < 65536

-- ---- what is counted

pub tallied_none : (tally : List ℕ) → Tallied tally [] tally
tallied_none tally = record { size = refl; at = λ x s m. omega (arith, occ_nil x); most = λ x. omega arith }

-- a reference that has an entry, and one that has none
pub tallied_in : (tally : List ℕ) (x : ℕ) → x < length tally → Tallied tally (x ∷ []) (set tally x (get_or tally x 0 + 1))
tallied_in tally x m =
    record {
      size = length-set tally x (get_or tally x 0 + 1);
      at = λ y s l. each y;
      most = λ y. omega (arith, each y, occ-length y (x ∷ []));
    }
  where
    each : (y : ℕ) → get_or (set tally x (get_or tally x 0 + 1)) y 0 ≡ get_or tally y 0 + occ y (x ∷ [])
    each y =
        by_cases (ℕ_discrete y x)
        (λ e. rw e (omega (arith, get_or-set_same tally x (get_or tally x 0 + 1) 0 m, occ_one x x refl)))
        (λ n. omega (arith, get_or-set_other tally x y (get_or tally x 0 + 1) 0 n, occ_other y x n))

pub tallied_over : (tally : List ℕ) (x : ℕ) → length tally ≤ x → Tallied tally (x ∷ []) tally
tallied_over tally x h = record { size = refl; at = λ y s m. omega (arith, occ_other y x (λ e. omega arith)); most = λ y. omega arith }

-- empty references may be skipped
pub tallied_zeros : (tally l : List ℕ) → all (eqb 0) l ≡ true → Tallied tally l tally
tallied_zeros tally l z =
    record {
      size = refl;
      at = λ x s m. omega (arith, occ_none x l (λ i n e. omega (arith, eqb-true 0 (get_or l i 0) (all_at (eqb 0) l z i n))));
      most = λ x. omega arith;
    }

-- one list after another, and the part of a table from i to e after what stands before it
pub tallied_append : {a b c : List ℕ} (l m : List ℕ) → Tallied a l b → Tallied b m c → Tallied a (l ++ m) c
tallied_append l m v w =
    record {
      size = w.size ∙ v.size;
      at = λ x s n. omega (arith, v.at x s n, w.at x s (omega (arith, v.size)), occ-append x l m);
      most = λ x. omega (arith, v.most x, w.most x, length-append l m);
    }

take_part : (table : List ℕ) (i e : ℕ) → i ≤ e → take e table ≡ take i table ++ take (e - i) (drop i table)
take_part table i e h =
    let k : e ≡ i + (e - i) = omega arith in
    ap (λ (n : ℕ). take n table) k ∙ take-add i (e - i) table

pub tallied_part : {a b c : List ℕ} (table : List ℕ) (i e : ℕ) → i ≤ e → Tallied a (take i table) b → Tallied b (take (e - i) (drop i table)) c → Tallied a (take e table) c
tallied_part table i e h v w = rw (take_part table i e h) (tallied_append _ _ v w)

pub room_after : {a l b : List ℕ} (k : ℕ) → Tallied a l b → TallyRoom a (length l + k) → TallyRoom b k
room_after k v r = record { some = omega (arith, v.size, r.some); fits16 = λ x. omega (arith, v.most x, r.fits16 x) }

pub less_room : {tally : List ℕ} (m k : ℕ) → k ≤ m → TallyRoom tally m → TallyRoom tally k
less_room m k h r = record { some = r.some; fits16 = λ x. omega (arith, r.fits16 x) }

-- ---- no entry dangles exactly if each is at most n

pub dangling_none : (n : ℕ) (l : List ℕ) → dangling n l ≡ 0 → (i : ℕ) → i < length l → get_or l i 0 ≤ n
unfolding dangling
dangling_none n [] d i m = absurd (omega arith)
dangling_none n (x ∷ l) d zero m = ⊎_elim (leb-true x n) (λ e. absurd (omega (arith, rw e at d))) (split (leb x n))
dangling_none n (x ∷ l) d (suc i) m = dangling_none n l (omega arith) i (omega arith)

pub none_dangling : (n : ℕ) (l : List ℕ) → ((i : ℕ) → i < length l → get_or l i 0 ≤ n) → dangling n l ≡ 0
unfolding dangling
none_dangling n [] h = refl
none_dangling n (x ∷ l) h = rw (le-leb x n (h 0 (omega arith))) (omega (arith, none_dangling n l (λ i m. h (suc i) (omega arith))))

pub dangling_zeros : (n : ℕ) (l : List ℕ) → all (eqb 0) l ≡ true → dangling n l ≡ 0
dangling_zeros n l z = none_dangling n l (λ i m. omega (arith, eqb-true 0 (get_or l i 0) (all_at (eqb 0) l z i m)))

pub dangling-length : (n : ℕ) (l : List ℕ) → dangling n l ≤ length l
unfolding dangling
dangling-length n [] = omega arith
dangling-length n (x ∷ l) = go (leb x n) (dangling-length n l)
  where
    go : (b : Bool) → dangling n l ≤ length l → cond b 0 1 + dangling n l ≤ suc (length l)
    go true ih = omega arith
    go false ih = omega arith

pub dangling-append : (n : ℕ) (l m : List ℕ) → dangling n (l ++ m) ≡ dangling n l + dangling n m
unfolding dangling
dangling-append n [] m = omega arith
dangling-append n (x ∷ l) m = omega (arith, dangling-append n l m)

pub dangling_part : (n : ℕ) (table : List ℕ) (i e : ℕ) → i ≤ e → dangling n (take e table) ≡ dangling n (take i table) + dangling n (take (e - i) (drop i table))
dangling_part n table i e h = ap (dangling n) (take_part table i e h) ∙ dangling-append n _ _

-- an entry that names no cell, and one that is empty or names a cell
pub dangling_over : (n x : ℕ) → n < x → dangling n (x ∷ []) ≡ 1
unfolding dangling
dangling_over n x h = rw (lt-leb x n h) refl

pub dangling_under : (n x : ℕ) → x ≤ n → dangling n (x ∷ []) ≡ 0
unfolding dangling
dangling_under n x h = rw (le-leb x n h) refl
