-- Steps that leave the arrays as they are: what they hold after them. Assumes nothing.
use Prim.Native.Nat.{ℕ, ◌+◌, ◌*◌, ◌-◌}
use native.Mathlib.Omega.{arith}
use mathlib.Core.Path.{◌≡◌, refl, ◌∙◌, ap, subst, subst⁻¹}
use mathlib.Core.List.{List}
use mathlib.Core.Bool.{Bool, true, false, ◌||◌, cond, true≢false}
use lib.Dec.{leb, ltb}
use Rattle.dump.specs.declared.reader.Reader.{Reader}
use Rattle.dump.specs.Reading.{State, reader_start, with, spoil, spoiled, digit, with_cr}
use Rattle.dump.specs.Holding.{size, joined, Kept, Holds, Starts, Goes}
use Rattle.dump.proofs.Cases.{with_digit}

-- ---- steps that agree

abbrev pub on : Reader → List (List ℕ) → List ℕ → State
on r ts row = record { reader = r; finished = ts; row = row }

-- two steps are the same on the states of a reader
abbrev pub Agree : (State → State) → (State → State) → Reader → Type 0
Agree step other r = (ts : List (List ℕ)) (row : List ℕ) → step (on r ts row) ≡ other (on r ts row)

-- so they are on a state that the reader holds
pub agree : (step other : State → State) (r : Reader) → Agree step other r → (s : State) → r ≡ s.reader → step s ≡ other s
agree step other r h s e = subst (λ (x : Reader). step (on x s.finished s.row) ≡ other (on x s.finished s.row)) e (h s.finished s.row)

-- ---- the start

-- a reader of zeros
pub at_start : {r : Reader}
    → (r.tables ≡ 0) × ((r.end ≡ 0) × ((r.digits ≡ 0) × ((r.value ≡ 0) × ((r.begun ≡ false) × ((r.cr ≡ false) × (r.spoilt ≡ false)))))) → r ≡ reader_start
at_start (t, (e, (d, (v, (b, (c, s)))))) =
    λ i. record { tables = t i; end = e i; digits = d i; value = v i; begun = b i; cr = c i; spoilt = s i }

pub starts : (r : Reader) → r ≡ reader_start → Starts r
unfolding size joined
starts r e = record {
  none = ap (λ (x : Reader). x.tables) e;
  holds = λ entries ends. record {
    reader = e;
    kept = λ p. record { beyond = entries; stored = refl; end = refl; count = refl; edges = λ i h. absurd (omega arith) };
  };
}

-- ---- another reader

-- the second reader has stored as much as the first, and may still fit only if that may
record Same (x y : Reader) : Type 0 where
  pub end : y.end ≡ x.end
  pub count : y.tables ≡ x.tables
  pub fit : y.spoilt ≡ false → x.spoilt ≡ false

same_spoil : (x : Reader) → Same x (spoil x)
same_spoil x = record { end = refl; count = refl; fit = λ p. absurd (true≢false p) }

same_digit : (b : ℕ) (x : Reader) → Same x (digit x b)
unfolding digit
same_digit b x = go (leb 5 x.digits || ltb 65535 (x.value * 10 + (b - 48)))
  where
    go : (t : Bool) → Same x (cond t (spoil x) (with_digit x (x.digits + 1) (x.value * 10 + (b - 48))))
    go true = same_spoil x
    go false = record { end = refl; count = refl; fit = λ p. p }

holds_with : {s : State} {r t y : Reader} {entries ends : List ℕ} → Same s.reader y → t ≡ y → Holds s r entries ends → Holds (with s y) t entries ends
holds_with {s} {entries = entries} {ends = ends} same e h = record {
  reader = e;
  kept = λ p. let k : Kept s entries ends = h.kept (same.fit p) in
      record { beyond = k.beyond; stored = k.stored; end = same.end ∙ k.end; count = same.count ∙ k.count; edges = k.edges };
}

pub holds_spoiled : {s : State} {r t : Reader} {entries ends : List ℕ} → t ≡ spoil r → Holds s r entries ends → Holds (spoiled s) t entries ends
holds_spoiled {s} e h = holds_with (same_spoil s.reader) (e ∙ ap spoil h.reader) h

-- ---- steps within a line

-- the step changes the reader as f does
goes_with : {step : State → State} {r t : Reader} {entries : List ℕ} (f : Reader → Reader) → ((x : Reader) → Same x (f x)) → t ≡ f r
    → Agree step (λ s. with s (f s.reader)) r → Goes step r entries t entries
goes_with {step} {r} {t} {entries} f same e h = record {
  count = ap (λ (x : Reader). x.tables) e ∙ (same r).count;
  holds = λ s ends a. subst⁻¹ (λ (x : State). Holds x t entries ends) (agree step (λ u. with u (f u.reader)) r h s a.reader)
      (holds_with (same s.reader) (e ∙ ap f a.reader) a);
}

-- nothing changes
pub goes_nowhere : {step : State → State} {r : Reader} {entries : List ℕ} → Agree step (λ s. s) r → Goes step r entries r entries
goes_nowhere h = goes_with (λ x. x) (λ x. record { end = refl; count = refl; fit = λ p. p }) refl h

pub goes_spoiled : {step : State → State} {r t : Reader} {entries : List ℕ} → t ≡ spoil r → Agree step spoiled r → Goes step r entries t entries
goes_spoiled e h = goes_with spoil same_spoil e h

pub goes_digit : {step : State → State} {r t : Reader} {entries : List ℕ} (b : ℕ) → t ≡ digit r b → Agree step (λ s. with s (digit s.reader b)) r
    → Goes step r entries t entries
goes_digit b e h = goes_with (λ x. digit x b) (same_digit b) e h

-- a CR is held back
pub goes_cr : {step : State → State} {r t : Reader} {entries : List ℕ} → t ≡ with_cr r → Agree step (λ s. with s (with_cr s.reader)) r
    → Goes step r entries t entries
goes_cr e h = goes_with with_cr (λ x. record { end = refl; count = refl; fit = λ p. p }) e h

-- another step does the same
pub goes_as : {step other : State → State} {r t : Reader} {entries entries' : List ℕ} → Goes other r entries t entries' → Agree step other r
    → Goes step r entries t entries'
goes_as {step} {other} {r} {t} {entries' = entries'} g h = record {
  count = g.count;
  holds = λ s ends a. subst⁻¹ (λ (x : State). Holds x t entries' ends) (agree step other r h s a.reader) (g.holds s ends a);
}
