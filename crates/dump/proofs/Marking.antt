-- A line ends: what the arrays hold after it. Assumes nothing.
use Prim.Native.Nat.{ℕ, suc, ◌+◌, ◌<◌}
use native.Mathlib.Omega.{arith}
use mathlib.Core.Path.{◌≡◌, refl, sym, ◌∙◌, ap, subst⁻¹}
use mathlib.Core.List.{List, [], ◌∷◌, ◌++◌, append-nil}
use mathlib.Core.Bool.{Bool, true, false}
use lib.Dec.{eqb}
use lib.ListN.{length, get_or, take, set, length-append}
use lib.Seq.{take-append-le, take_all, get_or-set_same, get_or-set_other}
use borrow.Author.Tests.{eqb-true, eqb-false}
use Rattle.dump.specs.declared.reader.Reader.{Reader}
use Rattle.dump.specs.Reading.{State, line_after, next_line}
use Rattle.dump.specs.Holding.{size, joined, Kept, Holds, Marks}
use Rattle.dump.proofs.Tables.{size_last, joined_last}

-- where each table ends, with one more of them
edges_more : (ts : List (List ℕ)) (row ends : List ℕ) (end : ℕ) → end ≡ size ts + length row → length ts < length ends
    → ((i : ℕ) → i < length ts → get_or ends i 0 ≡ size (take (suc i) ts))
    → (i : ℕ) → i < length (ts ++ (row ∷ [])) → get_or (set ends (length ts) end) i 0 ≡ size (take (suc i) (ts ++ (row ∷ [])))
edges_more ts row ends end e h k i l = go (eqb i (length ts)) refl
  where
    count : length (ts ++ (row ∷ [])) ≡ length ts + 1
    count = length-append ts (row ∷ [])

    go : (x : Bool) → eqb i (length ts) ≡ x → get_or (set ends (length ts) end) i 0 ≡ size (take (suc i) (ts ++ (row ∷ [])))
    go true p =
        let last : i ≡ length ts = eqb-true i (length ts) p in
        rw (last, get_or-set_same ends (length ts) end 0 h, take_all (suc (length ts)) (ts ++ (row ∷ [])) (omega (arith, count)), size_last ts row) e
    go false p =
        let other : i ≡ length ts → ⊥ = eqb-false i (length ts) p in
        rw (get_or-set_other ends (length ts) i end 0 other, take-append-le (suc i) ts (row ∷ []) (omega (arith, count))) (k i (omega (arith, count)))

kept_line : (s : State) (entries ends : List ℕ) → s.reader.tables < length ends → Kept s entries ends
    → Kept (next_line s) entries (set ends s.reader.tables s.reader.end)
kept_line s entries ends h k = record {
  beyond = k.beyond;
  stored = k.stored ∙ ap (λ (l : List ℕ). l ++ k.beyond) (sym (append-nil (joined (s.finished ++ (s.row ∷ []))) ∙ joined_last s.finished s.row));
  end = omega (arith, k.end, size_last s.finished s.row);
  count = omega (arith, k.count, length-append s.finished (s.row ∷ []));
  edges = rw k.count (edges_more s.finished s.row ends s.reader.end k.end (omega (arith, k.count)) k.edges);
}

holds_line : (r : Reader) (entries ends : List ℕ) (s : State) → r.tables < length ends → Holds s r entries ends
    → Holds (next_line s) (line_after r) entries (set ends r.tables r.end)
holds_line r entries ends s h a =
    let free : s.reader.tables < length ends = omega (arith, ap (λ (x : Reader). x.tables) a.reader) in
    record {
      reader = ap line_after a.reader;
      kept = λ p. subst⁻¹ (λ (l : List ℕ). Kept (next_line s) entries l) (ap (λ (x : Reader). set ends x.tables x.end) a.reader)
          (kept_line s entries ends free (a.kept p));
    }

-- the next line begins, with so many tables finished and so many entries stored
abbrev line_with : Reader → ℕ → ℕ → Reader
line_with r tables end = record { tables = tables; end = end; digits = 0; value = 0; begun = false; cr = false; spoilt = r.spoilt }

-- the end v is noted at `at`
pub marks : (r : Reader) (ends : List ℕ) (at v tables end : ℕ) → at ≡ r.tables → v ≡ r.end → tables ≡ r.tables + 1 → end ≡ r.end → at < length ends
    → Marks r ends (line_with r tables end) (set ends at v)
marks r ends at v tables end e f g k h = record { count = g; holds = λ s entries b. rw (e, f, g, k) (holds_line r entries ends s (omega arith) b) }
