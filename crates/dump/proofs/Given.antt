-- The tables of a heap that the arrays hold, read off them. Assumes nothing.
use Prim.Native.Nat.{ℕ, zero, suc, ◌-◌, ◌≤◌, ◌<◌}
use native.Mathlib.Omega.{arith}
use mathlib.Core.Path.{◌≡◌, refl, sym, ◌∙◌, ap}
use mathlib.Core.List.{List, [], ◌++◌, append_assoc}
use mathlib.Core.Bool.{true, false, cond}
use lib.ListN.{length, get_or, take, drop, length-append}
use Rattle.dump.specs.declared.reader.Reader.{Reader}
use Rattle.dump.specs.Dumps.{unfit}
use Rattle.dump.specs.Reading.{State, table_given}
use Rattle.dump.specs.Holding.{size, joined, Kept, Holds, Gives, Complete, Inside, edge}
use Rattle.dump.proofs.Tables.{size_joined, size_first, size_next, table_at}

-- where table i begins
edge_size : (s : State) (entries ends : List ℕ) (i : ℕ) → Kept s entries ends → i ≤ length s.finished → edge ends i ≡ size (take i s.finished)
unfolding size edge
edge_size s entries ends zero k h = refl
edge_size s entries ends (suc i) k h = k.edges i (omega arith)

pub edge_first : (ends : List ℕ) (i v : ℕ) → i ≡ 0 → v ≡ 0 → v ≡ edge ends i
unfolding edge
edge_first ends i v e f = rw (e, f)

pub edge_before : (ends : List ℕ) (i j : ℕ) → i ≡ suc j → get_or ends j 0 ≡ edge ends i
unfolding edge
edge_before ends i j e = rw e

table_inside : (s : State) (entries ends : List ℕ) (i from to : ℕ) → Kept s entries ends → i < length s.finished → from ≡ edge ends i → to ≡ get_or ends i 0
    → Inside from to entries
table_inside s entries ends i from to k h e f = record {
  order = omega (arith, edge_size s entries ends i k (omega arith), k.edges i h, size_next s.finished i);
  room = omega (
    arith,
    k.edges i h,
    size_first s.finished (suc i),
    size_joined s.finished,
    ap length k.stored,
    length-append (joined s.finished ++ s.row) k.beyond,
    length-append (joined s.finished) s.row,
  );
}

-- the same of a heap that is complete
pub complete_inside : (r : Reader) (entries ends : List ℕ) (i from to : ℕ) → Complete r entries ends → i < 7 → r.spoilt ≡ false
    → from ≡ edge ends i → to ≡ get_or ends i 0 → Inside from to entries
complete_inside r entries ends i from to h l e f g =
    let s : State = h.state in
    let a : Holds s r entries ends = h.holds in
    let k : Kept s entries ends = a.kept (ap (λ (x : Reader). x.spoilt) (sym a.reader) ∙ e) in
    table_inside s entries ends i from to k (omega (arith, k.count, ap (λ (x : Reader). x.tables) a.reader, h.whole)) f g

pub given_spoilt : (s : State) (i : ℕ) → s.reader.spoilt ≡ true → table_given s i ≡ []
unfolding table_given
given_spoilt s i e = ap (λ t. cond t [] (get_or s.finished i unfit)) e

pub given_table : (s : State) (i : ℕ) → s.reader.spoilt ≡ false → table_given s i ≡ get_or s.finished i unfit
unfolding table_given
given_table s i e = ap (λ t. cond t [] (get_or s.finished i unfit)) e

pub gives_none : (r : Reader) (entries ends : List ℕ) (i : ℕ) (table : List ℕ) → r.spoilt ≡ true → table ≡ [] → Gives r entries ends i table
gives_none r entries ends i table e f = record { given = λ s a. f ∙ sym (given_spoilt s i (ap (λ (x : Reader). x.spoilt) (sym a.reader) ∙ e)) }

pub gives_table : (r : Reader) (entries ends : List ℕ) (i from to : ℕ) (table : List ℕ) → r.spoilt ≡ false → i < r.tables
    → from ≡ edge ends i → to ≡ get_or ends i 0 → table ≡ take (to - from) (drop from entries) → Gives r entries ends i table
gives_table r entries ends i from to table e h f g t = record {
  given = λ s a.
      let fit : s.reader.spoilt ≡ false = ap (λ (x : Reader). x.spoilt) (sym a.reader) ∙ e in
      let k : Kept s entries ends = a.kept fit in
      let there : i < length s.finished = omega (arith, k.count, ap (λ (x : Reader). x.tables) a.reader) in
      let cut : entries ≡ joined s.finished ++ (s.row ++ k.beyond) = k.stored ∙ append_assoc (joined s.finished) s.row k.beyond in
      t ∙ ap (λ (l : List ℕ). take (to - from) (drop from l)) cut
      ∙ table_at s.finished (s.row ++ k.beyond) unfit i from to there (f ∙ edge_size s entries ends i k (omega arith)) (g ∙ k.edges i there)
      ∙ sym (given_table s i fit);
}
