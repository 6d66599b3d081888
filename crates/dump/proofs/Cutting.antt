-- However an input is cut, and one byte of it: the heaps that are given. Assumes nothing.
use Prim.Native.Nat.{ℕ}
use mathlib.Core.Path.{◌≡◌, refl, sym, ◌∙◌, ap}
use mathlib.Core.List.{List, [], ◌∷◌, ◌++◌, append_assoc}
use borrow.Author.Tests.{eq-eqb, ne_eqb}
use Rattle.rules.specs.Heap.{Heap}
use Rattle.dump.specs.Reading.{State, start_state, fed, closed, heap_given, out, next, within, after, given}
use Rattle.dump.specs.Claims.{AnyCut}

-- ---- however the input is cut

within-append : (s : State) (a b : List ℕ) → within s (a ++ b) ≡ within s a ++ within (after s a) b
unfolding within after
within-append s [] b = refl
within-append s (x ∷ a) b =
    ap (λ (l : List Heap). out (fed s x) ++ l) (within-append (next (fed s x)) a b)
    ∙ sym (append_assoc (out (fed s x)) (within (next (fed s x)) a) (within (after (next (fed s x)) a) b))

after-append : (s : State) (a b : List ℕ) → after s (a ++ b) ≡ after (after s a) b
unfolding after
after-append s [] b = refl
after-append s (x ∷ a) b = after-append (next (fed s x)) a b

pub any_cut : AnyCut
unfolding given
any_cut s a b =
    rw (within-append s a b, after-append s a b) (append_assoc (within s a) (within (after s a) b) (out (closed (after (after s a) b))))

-- ---- one byte, and the end

pub given_byte : (s : State) (b : ℕ) (rest : List ℕ) → given s (b ∷ rest) ≡ out (fed s b) ++ given (next (fed s b)) rest
unfolding given within after
given_byte s b rest = append_assoc (out (fed s b)) (within (next (fed s b)) rest) (out (closed (after (next (fed s b)) rest)))

pub given_end : (s : State) → given s [] ≡ out (closed s)
unfolding given within after
given_end s = refl

pub out_none : (t : State) → (t.reader.tables ≡ 7 → ⊥) → out t ≡ []
unfolding out
out_none t n = rw (ne_eqb t.reader.tables 7 n)

pub out_heap : (t : State) → t.reader.tables ≡ 7 → out t ≡ heap_given t ∷ []
unfolding out
out_heap t e = rw (eq-eqb t.reader.tables 7 e)

-- the heap goes on
pub given_more : (s t : State) (b : ℕ) (rest : List ℕ) → fed s b ≡ t → (t.reader.tables ≡ 7 → ⊥) → given s (b ∷ rest) ≡ given t rest
unfolding next
given_more s t b rest e n = given_byte s b rest ∙ rw (e, out_none t n, ne_eqb t.reader.tables 7 n)

-- a heap is complete
pub given_heap : (s t : State) (b : ℕ) (rest : List ℕ) → fed s b ≡ t → t.reader.tables ≡ 7 → given s (b ∷ rest) ≡ heap_given t ∷ given start_state rest
unfolding next
given_heap s t b rest e h = given_byte s b rest ∙ rw (e, out_heap t h, eq-eqb t.reader.tables 7 h)
