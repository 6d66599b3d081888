-- A byte of the input, and its end: the reader that the rules go on with means what the one before did. Assumes nothing.
use Prim.Native.Nat.{ℕ, ◌+◌}
use native.Mathlib.Omega.{arith}
use mathlib.Core.Path.{◌≡◌, refl, ◌∙◌, ap}
use mathlib.Core.List.{List, [], ◌∷◌, map}
use mathlib.Core.Bool.{Bool, true, false, ◌&&◌, cond, and-true}
use lib.Dec.{eqb}
use borrow.Author.Tests.{eqb-true, eqb-false, ne_eqb, eq-eqb}
use Rattle.csv_text.specs.Lines.{malformed, all, onto_first, lines_of, fields_of, value_from, record_of}
use Rattle.csv_text.specs.Reading.{reader_start, skipping, with_cr, in_line, plain, record_so_far, fed, closed, given, ended}
use Rattle.csv_text.specs.declared.reader.Reader.{Reader}
use Rattle.std.specs.Prelude.{Some, None}
use Rattle.csv_text.proofs.Meaning.{grows, record_from, closing, resumed, meaning}
use Rattle.csv_text.proofs.Parts.{Some as SomeParts, lines_cons, lines_other, lines_lone, lines_some}
use Rattle.csv_text.proofs.Taking.{dead_line, no_digit, Takes, takes}
use Rattle.csv_text.proofs.Start.{start_resumed}

meaning_plain : (s : Reader) (rest : List ℕ) → eqb s.cr 0 ≡ true → meaning s rest ≡ resumed s (lines_of rest)
unfolding meaning
meaning_plain s rest h = ap (λ t. resumed s (lines_of (cond t rest (13 ∷ rest)))) h

meaning_cr : (s : Reader) (rest : List ℕ) → eqb s.cr 0 ≡ false → meaning s rest ≡ resumed s (lines_of (13 ∷ rest))
unfolding meaning
meaning_cr s rest h = ap (λ t. resumed s (lines_of (cond t rest (13 ∷ rest)))) h

-- ---- what a line says that ends here

so_far : (s : Reader) → record_from s ([] ∷ []) ≡ record_so_far s
unfolding record_from record_so_far grows value_from all
so_far s =
    let field : s.field + 0 ≡ s.field = omega arith in
    let digits : s.digits + 0 ≡ s.digits = omega arith in
    simp (field, digits, and-true)

-- ---- a byte with no CR before it

resumed_onto : (s r : Reader) (b : ℕ) (ls : List (List ℕ)) → Takes s b r → resumed s (onto_first b ls) ≡ resumed r ls
unfolding resumed closing onto_first fields_of
resumed_onto s r b [] t = rw t.begun (ap (λ x. x ∷ []) (t.line_says []))
resumed_onto s r b (l ∷ ls) t = ap (λ x. x ∷ map record_of ls) (t.line_says l)

says_in_line : (s : Reader) (b : ℕ) (rest : List ℕ) → eqb s.cr 0 ≡ true → (b ≡ 13 → ⊥) → meaning s (b ∷ rest) ≡ meaning (in_line s b) rest
says_in_line s b rest h n =
    let t : Takes s b (in_line s b) = takes s b in
    rw (meaning_plain s (b ∷ rest) h, meaning_plain (in_line s b) rest (eq-eqb (in_line s b).cr 0 t.plain), lines_other b rest n) (resumed_onto s (in_line s b) b (lines_of rest) t)

record_cr : (s : Reader) (fs : List (List ℕ)) → record_from s fs ≡ record_from (with_cr s) fs
unfolding record_from
record_cr s [] = refl
record_cr s (f ∷ fs) = refl

resumed_cr : (s : Reader) (ls : List (List ℕ)) → resumed s ls ≡ resumed (with_cr s) ls
unfolding resumed closing
resumed_cr s [] = rw (record_cr s ([] ∷ []))
resumed_cr s (l ∷ ls) = rw (record_cr s (fields_of l))

says_cr : (s : Reader) (rest : List ℕ) → eqb s.cr 0 ≡ true → meaning s (13 ∷ rest) ≡ meaning (with_cr s) rest
says_cr s rest h = rw (meaning_plain s (13 ∷ rest) h, meaning_cr (with_cr s) rest refl) (resumed_cr s (lines_of (13 ∷ rest)))

says_plain : (s : Reader) (b : ℕ) (rest : List ℕ) → eqb s.cr 0 ≡ true → meaning s (b ∷ rest) ≡ meaning (plain s b) rest
unfolding plain
says_plain s b rest h = go (eqb b 13) refl
  where
    go : (x : Bool) → eqb b 13 ≡ x → meaning s (b ∷ rest) ≡ meaning (cond x (with_cr s) (in_line s b)) rest
    go true e = rw (eqb-true b 13 e) (says_cr s rest h)
    go false e = says_in_line s b rest h (eqb-false b 13 e)

-- ---- a byte after a CR

says_lf : (s : Reader) (rest : List ℕ) → eqb s.cr 0 ≡ false → meaning s (10 ∷ rest) ≡ record_so_far s ∷ meaning reader_start rest
unfolding resumed fields_of
says_lf s rest h = rw (meaning_cr s (10 ∷ rest) h, lines_cons 13 10 rest, meaning_plain reader_start rest refl, start_resumed (lines_of rest), so_far s)

-- a lone CR: the line is skipped
says_lone : (s : Reader) (b : ℕ) (rest : List ℕ) → eqb s.cr 0 ≡ false → (b ≡ 10 → ⊥) → meaning s (b ∷ rest) ≡ meaning skipping (b ∷ rest)
unfolding resumed onto_first
says_lone s b rest h n =
    let l : SomeParts (lines_of (b ∷ rest)) = lines_some b rest in
    rw (meaning_cr s (b ∷ rest) h, meaning_plain skipping (b ∷ rest) refl, lines_lone b rest n, l.split, no_digit s 13 l.head (λ e. omega arith) refl, dead_line skipping (fields_of l.head) refl)

-- ---- any byte, and the end

pub says : (s : Reader) (b : ℕ) (rest : List ℕ) → meaning s (b ∷ rest) ≡ given (fed s b) (λ t. meaning t rest)
unfolding fed ended
says s b rest = go (eqb s.cr 0) (eqb b 10) refl refl
  where
    go : (x y : Bool) → eqb s.cr 0 ≡ x → eqb b 10 ≡ y
        → meaning s (b ∷ rest) ≡ given (cond x (plain s b, None) (cond y (reader_start, Some (record_so_far s)) (plain skipping b, None))) (λ t. meaning t rest)
    go true y e f = says_plain s b rest e
    go false true e f = rw (eqb-true b 10 f) (says_lf s rest e)
    go false false e f = says_lone s b rest e (eqb-false b 10 f) ∙ says_plain skipping b rest refl

says_nothing_more : (s : Reader) → eqb s.cr 0 ≡ true → meaning s [] ≡ closing s
unfolding resumed lines_of
says_nothing_more s h = meaning_plain s [] h

pub says_end : (s : Reader) → meaning s [] ≡ ended (closed s)
unfolding closed ended resumed lines_of closing
says_end s = go (eqb s.cr 0) (eqb s.field 0) (eqb s.digits 0) refl refl refl
  where
    go : (x y z : Bool) → eqb s.cr 0 ≡ x → eqb s.field 0 ≡ y → eqb s.digits 0 ≡ z
        → meaning s [] ≡ ended (cond x (cond (y && z) None (Some (record_so_far s))) (Some malformed))
    go false y z e f g = rw (meaning_cr s [] e) (ap (λ x. x ∷ []) (no_digit s 13 [] (λ e. omega arith) refl))
    go true true true e f g =
        rw (says_nothing_more s e, eq-eqb (s.field + s.digits) 0 (omega (arith, eqb-true s.field 0 f, eqb-true s.digits 0 g)))
    go true true false e f g =
        rw (says_nothing_more s e, ne_eqb (s.field + s.digits) 0 (λ w. omega (arith, eqb-false s.digits 0 g)), so_far s)
    go true false z e f g =
        rw (says_nothing_more s e, ne_eqb (s.field + s.digits) 0 (λ w. omega (arith, eqb-false s.field 0 f)), so_far s)
