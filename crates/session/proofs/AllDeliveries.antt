-- Any list of deliveries, each handed in until it is used up, and then the end. Assumes nothing.
use Prim.Native.Nat.{ℕ, zero, suc, ◌≤◌}
use native.Mathlib.Omega.{arith}
use mathlib.Core.Path.{◌≡◌, refl, subst, subst⁻¹}
use mathlib.Core.List.{List, [], ◌∷◌, ◌++◌, append_assoc}
use lib.ListN.{length, take, drop, length-drop}
use lib.Seq.{take-append_seam, drop-nil}
use Rattle.csv_text.specs.Reading.{reader_start, closed}
use Rattle.csv_text.specs.declared.reader.Reader.{Reader}
use Rattle.rules.specs.Heap.{Heap}
use Rattle.session.specs.declared.taking.Progress.{Progress}
use Rattle.session.specs.Taking.{State, begun, takes, ends, Gave}
use Rattle.session.specs.Deliveries.{Delivered, used_up, deliveries, joined, AllDeliveries}
use Rattle.session.specs.Deliveries.Delivered.{handed, ended}
use Rattle.session.proofs.Delivery.{any_deliveries}
use Rattle.session.proofs.GettingOn.{takes_some_lem, end_holds_nothing}

-- what a function gives that gives x
abbrev progress_of : State → Progress
progress_of x = record { reader = x.reader; taken = x.taken; written = length x.text }

abbrev out_of : State → List ℕ → List ℕ
out_of x before = x.text ++ drop (length x.text) before

given_by : (x : State) (before : List ℕ) → Gave x before x.heap (out_of x before) (progress_of x)
given_by x before = record { heap = refl; progress = refl; out = refl }

written_by : (x : State) (before : List ℕ) → take (length x.text) (out_of x before) ≡ x.text
written_by x before = take-append_seam x.text (drop (length x.text) before)

-- handed in once
hand_in : (out : List ℕ) (h m : Heap) (s : Reader) (bytes later w : List ℕ) (x : State) → x ≡ takes (length out) (begun h s) bytes
    → Delivered x.reader x.heap (drop x.taken bytes ++ later) w m → Delivered s h (bytes ++ later) (x.text ++ w) m
hand_in out h m s bytes later w x e d =
    subst (λ (t : List ℕ). Delivered s h (bytes ++ later) (t ++ w) m) (written_by x out)
    (handed bytes later out (out_of x out) (progress_of x) (subst (λ (y : State). Gave y out x.heap (out_of x out) (progress_of x)) e (given_by x out)) d)

-- fewer bytes are left each time
fewer : (room n : ℕ) (h : Heap) (s : Reader) (bytes : List ℕ) → 31 ≤ room → length bytes ≤ suc n
    → length (drop (takes room (begun h s) bytes).taken bytes) ≤ n
fewer room n h s bytes l m = go bytes m (takes_some_lem room h s bytes l)
  where
    go : (p : List ℕ) → length p ≤ suc n → (1 ≤ length p → 1 ≤ (takes room (begun h s) bytes).taken) → length (drop (takes room (begun h s) bytes).taken p) ≤ n
    go [] k f = rw (drop-nil {A = ℕ} (takes room (begun h s) bytes).taken) (omega arith)
    go (b ∷ p) k f = omega (arith, length-drop (takes room (begun h s) bytes).taken (b ∷ p), f (omega arith))

use_up : (out : List ℕ) → 31 ≤ length out → (n : ℕ) (h m : Heap) (s : Reader) (bytes later w : List ℕ) → length bytes ≤ n
    → Delivered (used_up (length out) n h s bytes).reader (used_up (length out) n h s bytes).heap later w m
    → Delivered s h (bytes ++ later) ((used_up (length out) n h s bytes).text ++ w) m
unfolding used_up
use_up out l zero h m s [] later w k d = d
use_up out l zero h m s (b ∷ bytes) later w k d = absurd (omega arith)
use_up out l (suc n) h m s bytes later w k d =
    let x : State = takes (length out) (begun h s) bytes in
    let y : State = used_up (length out) n x.heap x.reader (drop x.taken bytes) in
    subst⁻¹ (λ (t : List ℕ). Delivered s h (bytes ++ later) t m) (append_assoc x.text y.text w)
    (hand_in out h m s bytes later (y.text ++ w) x refl
    (use_up out l n x.heap m x.reader (drop x.taken bytes) later w (fewer (length out) n h s bytes l k) d))

deliver : (out : List ℕ) → 31 ≤ length out → (h : Heap) (s : Reader) (ps : List (List ℕ))
    → Delivered s h (joined ps) (deliveries (length out) h s ps).text (deliveries (length out) h s ps).heap
unfolding joined deliveries
deliver out l h s [] =
    let x : State = ends (length out) h s (closed s) in
    subst (λ (t : List ℕ). Delivered s h [] t x.heap) (written_by x out)
    (ended out (out_of x out) (progress_of x) (given_by x out) (end_holds_nothing (length out) h s (closed s) l))
deliver out l h s (p ∷ ps) =
    let x : State = used_up (length out) (length p) h s p in
    use_up out l (length p) h (deliveries (length out) x.heap x.reader ps).heap s p (joined ps) (deliveries (length out) x.heap x.reader ps).text
    (omega arith) (deliver out l x.heap x.reader ps)

pub all_deliveries : AllDeliveries
all_deliveries h ps out l =
    any_deliveries h (deliveries (length out) h reader_start ps).heap (joined ps) (deliveries (length out) h reader_start ps).text (deliver out l h reader_start ps)
