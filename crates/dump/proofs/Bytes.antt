-- A byte of the input: the heaps that are given from it on are those that are meant, if it is so from the next byte on. Assumes nothing.
use Prim.Native.Nat.{ℕ}
use native.Mathlib.Omega.{arith}
use mathlib.Core.Path.{◌≡◌, refl, sym, ◌∙◌, ap, subst⁻¹}
use mathlib.Core.List.{List, [], ◌∷◌, ◌++◌, map}
use mathlib.Core.Bool.{Bool, true, false}
use lib.Dec.{eqb}
use lib.ListN.{length, length-append}
use borrow.Author.Tests.{eqb-true, eqb-false}
use Rattle.csv_text.specs.Lines.{lines_of}
use Rattle.csv_text.proofs.Parts.{lines_other, lines_lone}
use Rattle.rules.specs.Heap.{Heap}
use Rattle.dump.specs.Dumps.{table_of, heaps_from}
use Rattle.dump.specs.Reading.{State, start_state, with, spoiled, in_line, with_cr, last_field, next_line, line_end, fed, out, next, given}
use Rattle.dump.specs.Claims.{AllAlike, also}
use Rattle.dump.proofs.Cases.{held_back, line_byte, fed_plain, fed_line_end, fed_lone_cr}
use Rattle.dump.proofs.Meaning.{Follows}
use Rattle.dump.proofs.Following.{follows_byte, byte_plain, follows_cr, follows_lone}
use Rattle.dump.proofs.LineEnds.{LastField, last_closes, follows_start, follows_next}
use Rattle.dump.proofs.Fitting.{alike_whole}
use Rattle.dump.proofs.Cutting.{given_byte, given_more, given_heap}
use Rattle.dump.proofs.Meant.{onto, onto_first_lem, meant, pending, heaps_next, heaps_whole, meant_line, meant_none}

abbrev pub Reads : List ℕ → Type 0
Reads rest = (s : State) (ts : List (List ℕ)) (p : List ℕ) → Follows s ts p → AllAlike (given s rest) (meant ts p (pending s.reader.cr rest))

pub at : {g h m n : List Heap} → g ≡ h → m ≡ n → AllAlike h n → AllAlike g m
at {g} {h} {m} {n} e f a = subst⁻¹ (λ (x : List Heap). AllAlike x m) e (subst⁻¹ (λ (x : List Heap). AllAlike h x) f a)

-- what a state reads that holds a CR back, or none
reads_at : (cr : Bool) (rest : List ℕ) → Reads rest → (s : State) (ts : List (List ℕ)) (p : List ℕ) → s.reader.cr ≡ cr → Follows s ts p
    → AllAlike (given s rest) (meant ts p (pending cr rest))
reads_at cr rest ih s ts p e h = at refl (ap (λ (x : Bool). meant ts p (pending x rest)) (sym e)) (ih s ts p h)

-- ---- a byte with no CR before it

not_yet : (s : State) (ts : List (List ℕ)) (p : List ℕ) → Follows s ts p → s.reader.tables ≡ 7 → ⊥
not_yet s ts p h e = omega (arith, h.count, h.few)

reads_plain : (b : ℕ) (rest : List ℕ) → Reads rest → (s : State) (ts : List (List ℕ)) (p : List ℕ) → s.reader.cr ≡ false → Follows s ts p
    → AllAlike (given s (b ∷ rest)) (meant ts p (b ∷ rest))
reads_plain b rest ih s ts p c h = go (eqb b 13) refl
  where
    go : (x : Bool) → eqb b 13 ≡ x → AllAlike (given s (b ∷ rest)) (meant ts p (b ∷ rest))
    go true e =
        let t : State = with s (with_cr s.reader) in
        let cr : b ≡ 13 = eqb-true b 13 e in
        at (given_more s t b rest (fed_plain s b c ∙ held_back s b cr) (not_yet t ts p (follows_cr s ts p h)))
        (ap (λ (x : ℕ). meant ts p (x ∷ rest)) cr)
        (reads_at true rest ih t ts p refl (follows_cr s ts p h))
    go false e =
        let t : State = in_line s b in
        let q : List ℕ = p ++ (b ∷ []) in
        let n : b ≡ 13 → ⊥ = eqb-false b 13 e in
        let f : Follows t ts q = follows_byte s ts p b c h in
        at (given_more s t b rest (fed_plain s b c ∙ line_byte s b n) (not_yet t ts q f))
        (ap (λ (ls : List (List ℕ)). heaps_from ts (map table_of ls)) (ap (onto p) (lines_other b rest n) ∙ onto_first_lem p b (lines_of rest)))
        (reads_at false rest ih t ts q (byte_plain s ts p b c h) f)

-- ---- a byte after a CR

reads_lf : (rest : List ℕ) → Reads rest → (s : State) (ts : List (List ℕ)) (p : List ℕ) → s.reader.cr ≡ true → Follows s ts p
    → AllAlike (given s (10 ∷ rest)) (meant ts p (13 ∷ (10 ∷ rest)))
unfolding line_end
reads_lf rest ih s ts p c h = go (eqb (length ts) 6) refl
  where
    x : List ℕ
    x = table_of p

    u : State
    u = last_field s

    ends : LastField s ts x
    ends = last_closes s ts p h.knows

    held : u.reader.tables ≡ length ts
    held = ends.count ∙ h.count

    go : (y : Bool) → eqb (length ts) 6 ≡ y → AllAlike (given s (10 ∷ rest)) (meant ts p (13 ∷ (10 ∷ rest)))
    go true e =
        let six : length ts ≡ 6 = eqb-true (length ts) 6 e in
        at (given_heap s (next_line u) 10 rest (fed_line_end s 10 c refl) (omega (arith, held)))
        (meant_line ts p rest ∙ heaps_whole ts x (map table_of (lines_of rest)) six)
        (also (alike_whole u ts x (omega (arith, length-append ts (x ∷ []))) ends.closes)
        (at refl (sym (meant_none [] rest)) (ih start_state [] [] follows_start)))
    go false e =
        let n : length ts ≡ 6 → ⊥ = eqb-false (length ts) 6 e in
        let f : Follows (next_line u) (ts ++ (x ∷ [])) [] = follows_next u ts x held (omega (arith, n, h.few)) ends.closes in
        at (given_more s (next_line u) 10 rest (fed_line_end s 10 c refl) (not_yet (next_line u) (ts ++ (x ∷ [])) [] f))
        (meant_line ts p rest ∙ heaps_next ts x (map table_of (lines_of rest)) n ∙ sym (meant_none (ts ++ (x ∷ [])) rest))
        (ih (next_line u) (ts ++ (x ∷ [])) [] f)

-- a lone CR: the state is as after a byte that spoils the heap
reads_lone : (b : ℕ) (rest : List ℕ) → Reads rest → (s : State) (ts : List (List ℕ)) (p : List ℕ) → s.reader.cr ≡ true → (b ≡ 10 → ⊥) → Follows s ts p
    → AllAlike (given s (b ∷ rest)) (meant ts p (13 ∷ (b ∷ rest)))
reads_lone b rest ih s ts p c n h =
    let same : fed s b ≡ fed (spoiled s) b = fed_lone_cr s b c n ∙ sym (fed_plain (spoiled s) b refl) in
    at (given_byte s b rest ∙ ap (λ (t : State). out t ++ given (next t) rest) same ∙ sym (given_byte (spoiled s) b rest))
    (ap (λ (ls : List (List ℕ)). heaps_from ts (map table_of ls)) (ap (onto p) (lines_lone b rest n) ∙ onto_first_lem p 13 (lines_of (b ∷ rest))))
    (reads_plain b rest ih (spoiled s) ts (p ++ (13 ∷ [])) refl (follows_lone s ts p h))

pub reads_byte : (b : ℕ) (rest : List ℕ) → Reads rest → Reads (b ∷ rest)
reads_byte b rest ih s ts p h = go s.reader.cr (eqb b 10) refl refl
  where
    go : (x y : Bool) → s.reader.cr ≡ x → eqb b 10 ≡ y → AllAlike (given s (b ∷ rest)) (meant ts p (pending x (b ∷ rest)))
    go false y e f = reads_plain b rest ih s ts p e h
    go true true e f = rw (eqb-true b 10 f) (reads_lf rest ih s ts p e h)
    go true false e f = reads_lone b rest ih s ts p e (eqb-false b 10 f) h
