-- The counts that COLLECT's first round meets, slot by slot; its other phases take nothing off.
-- Assumes nothing.
use Rattle.std.specs.Prelude.{ℕ, zero, suc, ◌+◌, ◌≤◌, ◌<◌, List, [], ◌∷◌, ◌≡◌, refl, length}
use Rattle.std.proofs.Common.{arith, ap, ◌∙◌, length-set}
use Rattle.rules.specs.Lists.{occ, sum}
use Rattle.rules.specs.Heap.{Heap, count_of, slots_of, set_count, set_queue, enqueue, wipe}
use Rattle.rules.specs.Release.{decremented}
use Rattle.rules.specs.Collect.{unreached_finalizable, garbage, enqueue_all, lower_all, unlink_all, wipe_all, swept, collect}
use Rattle.rules.specs.Counts.{met, lower_all_met, unlink_all_met, collect_met}
use Rattle.laws.specs.Lists.Tables.{set_same}
use Rattle.laws.specs.Lists.Occ.{occ_here, occ_cons}
use Rattle.laws.specs.Sound.But.{SoundBut}
use Rattle.laws.specs.Collect.Unlinking.{decremented_one, Covered, covered_empty, covered_first, covered_rest, SlotsCovered, slots_covered_first, slots_covered_rest}
use Rattle.laws.specs.Collect.Live.{due_only}
use Rattle.laws.specs.Collect.Left.{unlink_covered, rescued_count}
use Rattle.laws.specs.Collect.Swept.{garbage_spent}
use Rattle.laws.specs.Counts.Noted.{Noted, sum-set, sum_still, noted_nothing, noted_one, noted_then}

-- ---- the queueing: each count rises by 1

enqueue_sum : (h : Heap) (l : List ℕ) → ((x : ℕ) → 1 ≤ occ x l → x < length h.count) → sum (enqueue_all h l).count ≡ sum h.count + length l
unfolding enqueue_all set_count enqueue set_queue
enqueue_sum h [] inside = omega arith
enqueue_sum h (c ∷ l) inside =
    let n : ℕ = suc (count_of h c) in
    omega (
      arith,
      enqueue_sum (set_count (enqueue h c) c n) l (λ x b. omega (arith, inside x (omega (arith, occ_cons x c l)), length-set h.count c n)),
      sum-set h.count c n (inside c (omega (arith, occ_here c l))),
    )

-- ---- the first round

lower_noted : (h : Heap) (l : List ℕ) → Covered h.count l → Noted h.count 0 (lower_all h l).count 0 (lower_all_met h l)
unfolding lower_all lower_all_met met set_count
lower_noted h [] v = noted_nothing refl
lower_noted h (zero ∷ l) v = lower_noted h l (covered_empty h l v)
lower_noted h (suc c ∷ l) v =
    let some : 1 ≤ count_of h c = covered_first h c l v in
    let g : Heap = set_count h c (decremented (count_of h c)) in
    noted_then (met h (suc c)) (lower_all_met g l)
    (noted_one h.count c (decremented (count_of h c)) 0 0 some (omega (arith, decremented_one (count_of h c) some)))
    (lower_noted g l (covered_rest h c l v))

unlink_noted : (h : Heap) (l : List ℕ) → SlotsCovered h.slots h.count l → Noted h.count 0 (unlink_all h l).count 0 (unlink_all_met h l)
unfolding unlink_all unlink_all_met
unlink_noted h [] v = noted_nothing refl
unlink_noted h (c ∷ l) v =
    let s : List ℕ = slots_of h.slots c in
    noted_then (lower_all_met h s) (unlink_all_met (lower_all h s) l) (lower_noted h s (slots_covered_first h c l v)) (unlink_noted (lower_all h s) l (slots_covered_rest h c l v))

-- ---- the second round: cells whose counts are 0 are freed

wipe_sum : (h : Heap) (l : List ℕ) → ((x : ℕ) → 1 ≤ occ x l → count_of h x ≡ 0) → sum (wipe_all h l).count ≡ sum h.count
unfolding wipe_all wipe
wipe_sum h [] spent = refl
wipe_sum h (c ∷ l) spent =
    let here : count_of h c ≡ 0 = spent c (omega (arith, occ_here c l)) in
    wipe_sum (wipe h c) l (λ x b. set_same h.count c 0 here x ∙ spent x (omega (arith, occ_cons x c l))) ∙ sum_still h.count c here

-- ---- COLLECT

pub collect_noted : (h : Heap) → SoundBut h [] → Noted h.count 0 (collect h).heap.count (length (collect h).queued) (collect_met h)
unfolding collect swept collect_met
collect_noted h s =
    let g : Heap = enqueue_all h (unreached_finalizable h) in
    let round : Noted g.count 0 (unlink_all g (garbage h)).count 0 (unlink_all_met g (garbage h)) = unlink_noted g (garbage h) (unlink_covered h s) in
    record {
      none = round.none;
      balance = omega (
        arith,
        enqueue_sum h (unreached_finalizable h) (λ x b. omega (arith, s.fit.count_size, (due_only h s x b).range)),
        round.balance,
        wipe_sum (unlink_all g (garbage h)) (garbage h) (garbage_spent h s),
        ap sum (rescued_count h s),
      );
    }
