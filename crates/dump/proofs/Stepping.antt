-- Steps made of others: what the arrays hold after them. Assumes nothing.
use Prim.Native.Nat.{ℕ, ◌≤◌, ◌<◌}
use native.Mathlib.Omega.{arith}
use mathlib.Core.Path.{◌≡◌, ◌∙◌, ap, subst⁻¹}
use mathlib.Core.List.{List}
use mathlib.Core.Bool.{true≢false}
use Rattle.dump.specs.declared.reader.Reader.{Reader}
use Rattle.dump.specs.Reading.{State, with, spoil, spoiled, last_field, line_end, cut_short}
use Rattle.dump.specs.Holding.{Holds, Goes, Marks, Fills, Steps}
use Rattle.dump.proofs.Held.{Agree, agree, holds_spoiled}

-- another step does the same
pub steps_as : {step other : State → State} {r t : Reader} {entries ends entries' ends' : List ℕ} → Steps other r entries ends t entries' ends'
    → Agree step other r → Steps step r entries ends t entries' ends'
steps_as {step} {other} {r} {t} {entries' = entries'} {ends' = ends'} g h = record {
  count = g.count;
  holds = λ s a. subst⁻¹ (λ (x : State). Holds x t entries' ends') (agree step other r h s a.reader) (g.holds s a);
}

-- a step within a line
pub steps_goes : {step : State → State} {r t : Reader} {entries ends entries' : List ℕ} → r.tables < 7 → Goes step r entries t entries'
    → Steps step r entries ends t entries' ends
steps_goes {ends = ends} h g = record { count = omega (arith, g.count); holds = λ s. g.holds s ends }

-- a step of a heap that can no longer fit
pub steps_spoiled : {step : State → State} {r q t : Reader} {entries ends entries' ends' : List ℕ} → q ≡ spoil r → Steps step q entries ends t entries' ends'
    → Steps (λ s. step (spoiled s)) r entries ends t entries' ends'
steps_spoiled e g = record { count = g.count; holds = λ s a. g.holds (spoiled s) (holds_spoiled e a) }

-- the last field, and then the line
pub steps_line : {r q t : Reader} {entries ends entries' ends' : List ℕ} → r.tables < 7 → Goes last_field r entries q entries' → Marks q ends t ends'
    → Steps line_end r entries ends t entries' ends'
unfolding line_end
steps_line {ends = ends} {entries' = entries'} h g m = record {
  count = omega (arith, g.count, m.count);
  holds = λ s a. m.holds (last_field s) entries' (g.holds s ends a);
}

-- the last line, and then the lines that are missing
pub steps_fills : {step fill : State → State} {r q t : Reader} {entries ends entries' ends' : List ℕ} → Steps step r entries ends q entries' ends'
    → Fills fill q t → Steps (λ s. fill (step s)) r entries ends t entries' ends'
steps_fills {step} {entries' = entries'} {ends' = ends'} g f = record { count = f.count; holds = λ s a. f.holds (step s) entries' ends' (g.holds s a) }

-- ---- lines that are missing

-- the heap stays as it is
pub fills_nothing : {step : State → State} {r : Reader} → r.tables ≤ 7 → Agree step (λ s. s) r → Fills step r r
fills_nothing {step} {r} l h = record {
  count = l;
  holds = λ s entries ends a. subst⁻¹ (λ (x : State). Holds x r entries ends) (agree step (λ u. u) r h s a.reader) a;
}

-- the missing lines are counted, and the heap is spoilt
pub fills_short : {step : State → State} {r t : Reader} → t ≡ cut_short r → Agree step (λ s. with s (cut_short s.reader)) r → Fills step r t
fills_short {step} {r} {t} e h = record {
  count = omega (arith, ap (λ (x : Reader). x.tables) e);
  holds = λ s entries ends a. subst⁻¹ (λ (x : State). Holds x t entries ends) (agree step (λ u. with u (cut_short u.reader)) r h s a.reader)
      (record { reader = e ∙ ap cut_short a.reader; kept = λ p. absurd (true≢false p) });
}
