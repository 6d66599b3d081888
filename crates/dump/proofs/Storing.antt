-- An entry is stored: what the arrays hold after it. Assumes nothing.
use Prim.Native.Nat.{ℕ, ◌+◌, ◌<◌}
use native.Mathlib.Omega.{arith}
use mathlib.Core.Path.{◌≡◌, refl, sym, ◌∙◌, ap, subst⁻¹}
use mathlib.Core.List.{List, [], ◌∷◌, ◌++◌, append_assoc}
use mathlib.Core.Bool.{true}
use lib.ListN.{length, set, length-append}
use lib.Seq.{set_at}
use Rattle.dump.specs.declared.reader.Reader.{Reader}
use Rattle.dump.specs.Reading.{State, next_field, entered}
use Rattle.dump.specs.Holding.{joined, Kept, Holds, Goes}
use Rattle.dump.proofs.Cases.{with_entry}
use Rattle.dump.proofs.Tables.{size_joined}
use Rattle.dump.proofs.Held.{Agree, agree}

-- what stands behind the first of the free places
stored_more : (front beyond : List ℕ) (at v : ℕ) → at ≡ length front → at < length (front ++ beyond)
    → (rest : List ℕ) × (set (front ++ beyond) at v ≡ (front ++ (v ∷ [])) ++ rest)
stored_more front [] at v e h = absurd (omega (arith, length-append front []))
stored_more front (y ∷ ys) at v e h = (ys, set_at front y ys v at (sym e) ∙ sym (append_assoc front (v ∷ []) ys))

kept_entry : (s : State) (entries ends : List ℕ) → s.reader.end < length entries → Kept s entries ends
    → Kept (with_entry s) (set entries s.reader.end s.reader.value) ends
kept_entry s entries ends h k =
    let front : List ℕ = joined s.finished ++ s.row in
    let at : s.reader.end ≡ length front = omega (arith, k.end, length-append (joined s.finished) s.row, size_joined s.finished) in
    let free : s.reader.end < length (front ++ k.beyond) = omega (arith, ap length k.stored) in
    let more = stored_more front k.beyond s.reader.end s.reader.value at free in
    record {
      beyond = more.0;
      stored = ap (λ (l : List ℕ). set l s.reader.end s.reader.value) k.stored ∙ more.1
          ∙ ap (λ (l : List ℕ). l ++ more.0) (append_assoc (joined s.finished) s.row (s.reader.value ∷ []));
      end = omega (arith, k.end, length-append s.row (s.reader.value ∷ []));
      count = k.count;
      edges = k.edges;
    }

holds_entry : (r : Reader) (entries ends : List ℕ) (s : State) → r.end < length entries → Holds s r entries ends
    → Holds (with_entry s) (next_field r) (set entries r.end r.value) ends
holds_entry r entries ends s h a =
    let free : s.reader.end < length entries = omega (arith, ap (λ (x : Reader). x.end) a.reader) in
    record {
      reader = ap next_field a.reader;
      kept = λ p. subst⁻¹ (λ (l : List ℕ). Kept (with_entry s) l ends) (ap (λ (x : Reader). set entries x.end x.value) a.reader)
          (kept_entry s entries ends free (a.kept p));
    }

-- the next field begins, with so many entries stored
abbrev field_after : Reader → ℕ → Reader
field_after r end = record { tables = r.tables; end = end; digits = 0; value = 0; begun = true; cr = r.cr; spoilt = r.spoilt }

-- the value v is stored at `at`
pub goes_entered : (r : Reader) (entries : List ℕ) (at v end : ℕ) → at ≡ r.end → v ≡ r.value → end ≡ r.end + 1 → at < length entries
    → Agree entered with_entry r → Goes entered r entries (field_after r end) (set entries at v)
goes_entered r entries at v end e f g h a = record {
  count = refl;
  holds = λ s ends b. subst⁻¹ (λ (x : State). Holds x (field_after r end) (set entries at v) ends) (agree entered with_entry r a s b.reader)
      (rw (e, f, g) (holds_entry r entries ends s (omega arith) b));
}
