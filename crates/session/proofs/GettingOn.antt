-- Getting on: with room for an answer to each byte, and with room for one. Assumes nothing.
use Prim.Native.Nat.{ℕ, suc, ◌+◌, ◌*◌, ◌≤◌, ◌<◌}
use native.Mathlib.Omega.{arith}
use mathlib.Core.Path.{◌≡◌, refl, ap, subst, subst⁻¹}
use mathlib.Core.List.{List, [], ◌∷◌}
use mathlib.Core.Bool.{Bool, true, false, cond}
use lib.Dec.{leb}
use lib.ListN.{length}
use lib.Seq.{take_all}
use borrow.Author.Tests.{leb-false, le-leb}
use Rattle.std.specs.Prelude.{Option, Some, None}
use Rattle.csv_text.specs.Lines.{Record}
use Rattle.csv_text.specs.Reading.{reader_start, fed, closed}
use Rattle.csv_text.specs.declared.reader.Reader.{Reader}
use Rattle.rules.specs.Heap.{Heap}
use Rattle.session.specs.declared.taking.Progress.{Progress}
use Rattle.session.specs.Taking.{State, begun, advance, takes, ends, BytesTaken}
use Rattle.session.specs.Deliveries.{Took, GetsOn}
use Rattle.session.proofs.Delivery.{Went, went}

-- ---- room for an answer to each byte

-- some bytes are left only where an answer has no room
left_without_room : (room : ℕ) (x : State) (bytes : List ℕ) → (takes room x bytes).taken < x.taken + length bytes → room < length (takes room x bytes).text + 31
unfolding takes advance
left_without_room room x [] h = absurd (omega arith)
left_without_room room x (b ∷ rest) h = go (leb (length x.text + 31) room) refl (left_without_room room (advance x (fed x.reader b)) rest) h
  where
    go : (t : Bool) → leb (length x.text + 31) room ≡ t
        → ((takes room (advance x (fed x.reader b)) rest).taken < x.taken + 1 + length rest → room < length (takes room (advance x (fed x.reader b)) rest).text + 31)
        → (cond t (takes room (advance x (fed x.reader b)) rest) x).taken < x.taken + suc (length rest)
        → room < length (cond t (takes room (advance x (fed x.reader b)) rest) x).text + 31
    go true e ih less = ih (omega arith)
    go false e ih less = leb-false (length x.text + 31) room e

-- so with room for an answer to each, all bytes are taken
takes_all_lem : (s : Reader) (h k : Heap) (bytes before after : List ℕ) (r : Progress) → BytesTaken s h bytes before k after r → r.written ≤ 31 * r.taken
    → 31 * length bytes ≤ length before → r.taken ≡ length bytes
takes_all_lem s h k bytes before after r g each room =
    let x : State = takes (length before) (begun h s) bytes in
    let v : Went (begun h s) bytes x = went (length before) (begun h s) bytes in
    let taken : r.taken ≡ x.taken = ap (λ (z : Progress). z.taken) g.progress in
    let written : r.written ≡ length x.text = ap (λ (z : Progress). z.written) g.progress in
    let stop : x.taken < 0 + length bytes → length before < length x.text + 31 = left_without_room (length before) (begun h s) bytes in
    exactly (omega (arith, taken, v.count, v.most)) (λ less. omega (arith, each, room, taken, written, stop (omega (arith, taken, less))))
  where
    exactly : {a b : ℕ} → a ≤ b → (a < b → ⊥) → a ≡ b
    exactly h f = omega (arith, h, f)

-- and the lines in them have ended
pub all_taken : {s : Reader} {h k : Heap} {bytes before after : List ℕ} {r : Progress} → BytesTaken s h bytes before k after r
    → r.written ≤ 31 * r.taken → 31 * length bytes ≤ length before → Took s h bytes r.reader k
all_taken {s} {h} {k} {bytes} {before} {after} {r} g each room =
    let x : State = takes (length before) (begun h s) bytes in
    let v : Went (begun h s) bytes x = went (length before) (begun h s) bytes in
    let taken : r.taken ≡ x.taken = ap (λ (z : Progress). z.taken) g.progress in
    let all : length bytes ≤ v.n = omega (arith, taken, v.count, takes_all_lem s h k bytes before after r g each room) in
    subst⁻¹ (λ (t : Reader). Took s h bytes t k) (ap (λ (z : Progress). z.reader) g.progress)
    (subst⁻¹ (λ (m : Heap). Took s h bytes x.reader m) g.heap
    (subst (λ (l : List ℕ). Took s h l x.reader x.heap) (take_all v.n bytes all) v.taken))

-- ---- getting on

pub takes_some_lem : (room : ℕ) (h : Heap) (s : Reader) (bytes : List ℕ) → 31 ≤ room → 1 ≤ length bytes → 1 ≤ (takes room (begun h s) bytes).taken
unfolding takes advance
takes_some_lem room h s [] l m = absurd (omega arith)
takes_some_lem room h s (b ∷ rest) l m =
    let first : State = advance (begun h s) (fed s b) in
    rw (le-leb (0 + 31) room (omega arith)) (omega (arith, (went room first rest).count))

pub end_holds_nothing : (room : ℕ) (h : Heap) (s : Reader) (last : Option Record) → 31 ≤ room → (ends room h s last).reader ≡ reader_start
unfolding ends
end_holds_nothing room h s None l = refl
end_holds_nothing room h s (Some r) l = rw (le-leb 31 room l) refl

pub gets_on : GetsOn
gets_on = record { takes_some = takes_some_lem; takes_all = takes_all_lem; holds_nothing = λ room h s. end_holds_nothing room h s (closed s) }
