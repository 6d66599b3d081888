-- The finalizer queue: it has room for a cell that is not in it, and stays in order when one joins its end.
-- Assumes nothing.
use Rattle.std.specs.Prelude.{ℕ, zero, suc, ◌≤◌, ◌<◌, List, [], ◌∷◌, ◌++◌, ◌≢◌, ◌≡◌, length, get_or, set}
use Rattle.std.proofs.Common.{arith, ap, ◌∙◌, get_or-set_same, get_or-set_other, take-suc-set, length-take-le}
use Rattle.rules.specs.Lists.{occ}
use Rattle.laws.specs.Lists.Tables.{by_cell, inside}
use Rattle.laws.specs.Lists.Occ.{occ_there, occ_snoc_here, occ_snoc_there}
use Rattle.laws.specs.Lists.Pigeonhole.{pigeonhole, once_cons, below_cons}
use Rattle.laws.specs.Sound.But.{QueueOk, entries_of}

-- references to cells below n are numbers up to n
named_small : (n : ℕ) (l : List ℕ) → ((d : ℕ) → 1 ≤ occ (suc d) l → d < n) → (x : ℕ) → 1 ≤ occ x l → x < suc n
named_small n l small zero o = omega arith
named_small n l small (suc d) o = omega (arith, small d o)

module _ (kind flags queue control : List ℕ) (ok : QueueOk kind flags queue control) (size : length queue ≡ length kind)
    (c : ℕ) (unqueued : occ (suc c) (entries_of queue control) ≡ 0) (range : c < length kind) where
  -- c is not in the queue, so there is room for it: 0, c's reference and the entries are distinct numbers up to N
  pub room : get_or control 0 0 < length kind
  room =
      let n : ℕ = length kind in
      let es : List ℕ = entries_of queue control in
      let small : (x : ℕ) → 1 ≤ occ x es → x < suc n = named_small n es (λ d o. inside kind d (omega (arith, ok.object d o))) in
      let fits : length (0 ∷ suc c ∷ es) ≤ suc n =
      pigeonhole (suc n) (0 ∷ suc c ∷ es)
      (once_cons 0 (suc c ∷ es) (omega (arith, occ_there 0 (suc c) es (λ z. omega arith))) (once_cons (suc c) es unqueued ok.once))
      (below_cons (suc n) 0 (suc c ∷ es) (omega arith) (below_cons (suc n) (suc c) es (omega arith) small)) in
      omega (arith, length-take-le (get_or control 0 0) queue (omega arith))

  module _ (two : length control ≡ 2) where
    push_length : get_or (set control 0 (suc (get_or control 0 0))) 0 0 ≡ suc (get_or control 0 0)
    push_length = get_or-set_same control 0 (suc (get_or control 0 0)) 0 (omega arith)

    pub push_entries : entries_of (set queue (get_or control 0 0) (suc c)) (set control 0 (suc (get_or control 0 0))) ≡ entries_of queue control ++ (suc c ∷ [])
    push_entries = rw push_length (take-suc-set queue (get_or control 0 0) (suc c) (omega (arith, room)))

    -- an object with flags 1 joins
    pub push_ok : get_or kind c 0 ≡ 1 → get_or flags c 0 ≡ 1
        → QueueOk kind flags (set queue (get_or control 0 0) (suc c)) (set control 0 (suc (get_or control 0 0)))
    push_ok k f =
        let q : ℕ = get_or control 0 0 in
        let es : List ℕ = entries_of queue control in
        let other : (x : ℕ) → x ≢ suc c → occ x (entries_of (set queue q (suc c)) (set control 0 (suc q))) ≡ occ x es =
        λ x m. ap (occ x) push_entries ∙ occ_snoc_there x (suc c) es m in
        let this : occ (suc c) (entries_of (set queue q (suc c)) (set control 0 (suc q))) ≡ suc (occ (suc c) es) =
        ap (occ (suc c)) push_entries ∙ occ_snoc_here (suc c) es in
        record {
          within = omega (arith, push_length, room);
          once = by_cell (suc c) (omega arith) (λ x m. omega (arith, other x m, ok.once x));
          none_empty = other 0 (λ z. omega arith) ∙ ok.none_empty;
          object = by_cell c (λ o. k) (λ d m o. ok.object d (omega (arith, other (suc d) (λ z. m (omega arith)))));
          wanting = by_cell c (λ o. f) (λ d m o. ok.wanting d (omega (arith, other (suc d) (λ z. m (omega arith)))));
          rest = λ i h. get_or-set_other queue q i (suc c) 0 (λ z. omega (arith, push_length)) ∙ ok.rest i (omega (arith, push_length));
        }
