-- COLLECT keeps the heap sound, leaves just the reached cells in use, and does nothing exactly where that holds already.
-- Assumes nothing.
use Rattle.std.specs.Prelude.{ℕ, zero, suc, ◌+◌, ◌*◌, ◌≤◌, ◌/◌, ◌%◌, List, [], map, ◌≡◌, length, get_or}
use Rattle.std.proofs.Common.{arith, sym, ◌∙◌, ap, ⊎_elim}
use Rattle.std.proofs.Math.Decide.{dec_lt}
use Rattle.std.proofs.Math.Logic.{by_cases}
use Rattle.rules.specs.Lists.{occ}
use Rattle.rules.specs.Heap.{Heap, kind_of, flags_of, count_of, entries, Used, Free}
use Rattle.rules.specs.Reach.{Holds, Link, Reached, Exact}
use Rattle.rules.specs.Reach.Chain.{root, entry, further}
use Rattle.rules.specs.Collect.{unreached_finalizable, garbage, enqueue_all, unlink_all, collect}
use Rattle.laws.specs.Lists.Tests.{none_of}
use Rattle.laws.specs.Lists.Occ.{Stands, occ_nil, occ-append, occ_find, occ_empty, occ_refs, zero_refs}
use Rattle.laws.specs.Sound.But.{refit, Shaped, QueueOk, SoundBut}
use Rattle.laws.specs.Reach.Used.{holds_occ, link_owner, reached_used}
use Rattle.laws.specs.Reach.Safe.{Kept}
use Rattle.laws.specs.Collect.Live.{Live, due_only, due_room, queued_once, entry_reached, live_reached, live_due, live_link, live_least, live_out, out_live, garbage_only}
use Rattle.laws.specs.Collect.Left.{Left, first_round_count, collect_left}

module _ (h : Heap) (s : SoundBut h []) where
  abbrev due : List ℕ
  due = unreached_finalizable h

  abbrev dead : List ℕ
  dead = garbage h

  abbrev final : Heap
  final = (collect h).heap

  left : Left h final
  left = collect_left h s

  entries_occ : (c : ℕ) → occ (suc c) (entries final) ≡ occ (suc c) (entries h) + occ c due
  entries_occ c = omega (arith, ap (occ (suc c)) left.entries_are, occ-append (suc c) (entries h) (map suc due), occ_refs c due)

  entries_zero : occ 0 (entries final) ≡ 0
  entries_zero = omega (arith, ap (occ 0) left.entries_are, occ-append 0 (entries h) (map suc due), s.queue.none_empty, zero_refs due)

  -- ---- who is in use

  used_out : (c : ℕ) → Used final c → occ c dead ≡ 0
  used_out c u = none_of (occ c dead) (λ b. omega (arith, left.kind_in c b))

  used_before : (c : ℕ) → Used final c → Used h c
  used_before c u = omega (arith, left.kind_out c (used_out c u))

  used_live : (c : ℕ) → Used final c → Live h c
  used_live c u = out_live h s c (used_before c u) (used_out c u)

  -- a link of a live cell stands after the sweep
  link_kept : (p c : ℕ) → Live h p → Link h.slots p c → Link final.slots p c
  link_kept p c m k = record { slot = k.slot; in_cell = k.in_cell; holds = left.slots_out p k.slot k.in_cell (live_out h s p m) ∙ k.holds }

  -- and what stands in a slot after the sweep stood there, in a live cell
  link_was : (p c : ℕ) → Link final.slots p c → Live h p × Link h.slots p c
  link_was p c k =
      by_cases (dec_lt 0 (occ p dead)) (λ d. absurd (omega (arith, left.slots_in p k.slot k.in_cell d, k.holds)))
      (λ n.
      let o : occ p dead ≡ 0 = omega arith in
      let was : Link h.slots p c = record { slot = k.slot; in_cell = k.in_cell; holds = sym (left.slots_out p k.slot k.in_cell o) ∙ k.holds } in
      (out_live h s p (link_owner h [] s p c was) o, was))

  -- ---- counts

  abbrev refs_to : ℕ → ℕ
  refs_to c = occ (suc c) final.roots + occ (suc c) final.slots + occ (suc c) (entries final)

  -- what is still referred to is live
  referred_live : (c : ℕ) → 1 ≤ refs_to c → Live h c
  referred_live c o =
      by_cases (dec_lt 0 (occ (suc c) final.roots)) in_roots
      (λ a. by_cases (dec_lt 0 (occ (suc c) (entries final))) in_queue (λ b. in_slots (omega arith)))
    where
      in_roots : 1 ≤ occ (suc c) final.roots → Live h c
      in_roots b =
          let t : Stands (suc c) h.roots = occ_find (suc c) h.roots (omega (arith, ap (occ (suc c)) left.roots)) in
          live_reached h s c (root t.at t.is)

      in_queue : 1 ≤ occ (suc c) (entries final) → Live h c
      in_queue b =
          by_cases (dec_lt 0 (occ c due)) (live_due h s c) (λ n. live_reached h s c (entry_reached h s c (omega (arith, entries_occ c))))

      in_slots : 1 ≤ occ (suc c) final.slots → Live h c
      in_slots b =
          let t : Stands (suc c) final.slots = occ_find (suc c) final.slots b in
          let split : 8 * (t.at / 8) + t.at % 8 ≡ t.at = omega arith in
          let holds : Holds final.slots (8 * (t.at / 8) + t.at % 8) c = rw split t.is in
          let k = link_was (t.at / 8) c (record { slot = t.at % 8; in_cell = omega arith; holds = holds }) in
          live_link h s (t.at / 8) c k.0 k.1

  -- and what is live is still referred to
  live_referred : (c : ℕ) → Live h c → 1 ≤ refs_to c
  live_referred c m =
      (live_least h s {P = λ (d : ℕ). Live h d × (1 ≤ refs_to d)}
      (λ p d x k. (live_link h s p d x.0 k, in_slots p d x.0 k)) (λ d r. (live_reached h s d r, reached d r)) (λ d b. (live_due h s d b, omega (arith, entries_occ d))) c m).1
    where
      in_slots : (p d : ℕ) → Live h p → Link h.slots p d → 1 ≤ refs_to d
      in_slots p d m k = let l = link_kept p d m k in omega (arith, holds_occ final.slots (8 * p + l.slot) d l.holds)

      reached : (d : ℕ) → Reached h d → 1 ≤ refs_to d
      reached d (root i e) = omega (arith, ap (occ (suc d)) left.roots, holds_occ h.roots i d e)
      reached d (entry i e) = omega (arith, entries_occ d, holds_occ (entries h) i d e)
      reached d (further {p} r k) = in_slots p d (live_reached h s p r) k

  -- nothing refers to what was garbage
  unreferred : (c : ℕ) → 1 ≤ occ c dead → refs_to c ≡ 0
  unreferred c b = none_of (refs_to c) (λ o. (garbage_only h s c b).1 (referred_live c o))

  -- so every reference to it came off in the first round
  pub garbage_spent : (c : ℕ) → 1 ≤ occ c (garbage h) → count_of (unlink_all (enqueue_all h (unreached_finalizable h)) (garbage h)) c ≡ 0
  garbage_spent c b =
      omega (arith, first_round_count h s c, unreferred c b, s.counted c, left.slots_occ c, entries_occ c, ap (occ (suc c)) left.roots, occ_nil (suc c))

  final_counted : (c : ℕ) → count_of final c ≡ occ (suc c) final.roots + occ (suc c) final.slots + occ (suc c) (entries final) + occ (suc c) []
  final_counted c =
      by_cases (dec_lt 0 (occ c dead))
      (λ b. omega (arith, left.count_in c b, unreferred c b, occ_nil (suc c)))
      (λ n. omega (arith, left.count_out c (omega arith), s.counted c, left.slots_occ c, entries_occ c, ap (occ (suc c)) left.roots))

  -- ---- the rules

  -- a cell that is no garbage, or all zeros
  by_dead : {P : ℕ → Type 0} → ((c : ℕ) → 1 ≤ occ c dead → P c) → ((c : ℕ) → occ c dead ≡ 0 → P c) → (c : ℕ) → P c
  by_dead in_d outD c = by_cases (dec_lt 0 (occ c dead)) (in_d c) (λ n. outD c (omega arith))

  -- where the old flags are 0, the new ones are
  flags_zero : (c : ℕ) → occ c dead ≡ 0 → flags_of h c ≡ 0 → flags_of final c ≡ 0
  flags_zero c o z = ⊎_elim (λ e. e ∙ z) (λ r. absurd (omega (arith, r.0))) (left.flags_out c o)

  final_shaped : Shaped final.kind final.flags final.slots
  final_shaped = record {
    kinds = by_dead (λ c b. omega (arith, left.kind_in c b)) (λ c o. omega (arith, left.kind_out c o, s.shaped.kinds c));
    free_flags = by_dead (λ c b z. left.flags_in c b) (λ c o z. flags_zero c o (s.shaped.free_flags c (sym (left.kind_out c o) ∙ z)));
    free_slots = by_dead (λ c b k l z. left.slots_in c k l b) (λ c o k l z. left.slots_out c k l o ∙ s.shaped.free_slots c k l (sym (left.kind_out c o) ∙ z));
    plain_flags = by_dead (λ c b z. left.flags_in c b) (λ c o z. flags_zero c o (s.shaped.plain_flags c (omega (arith, left.kind_out c o))));
    plain_slots = by_dead (λ c b k l z. left.slots_in c k l b) (λ c o k l z. left.slots_out c k l o ∙ s.shaped.plain_slots c k l (omega (arith, left.kind_out c o)));
    object_flags = by_dead (λ c b z. omega (arith, left.flags_in c b))
        (λ c o z. ⊎_elim (λ e. omega (arith, s.shaped.object_flags c (sym (left.kind_out c o) ∙ z))) (λ r. omega (arith, r.1)) (left.flags_out c o));
    object_not_two = by_dead (λ c b z t. omega (arith, left.flags_in c b))
        (λ c o z t. ⊎_elim (λ e. s.shaped.object_not_two c (sym (left.kind_out c o) ∙ z) (sym e ∙ t)) (λ r. omega (arith, r.1)) (left.flags_out c o));
  }

  -- an entry after the sweep is an old one or one that was due: an object with flags 1 that is live
  entry_was : (c : ℕ) → 1 ≤ occ (suc c) (entries final) → (kind_of h c ≡ 1) × (flags_of h c ≡ 1) × Live h c
  entry_was c b =
      by_cases (dec_lt 0 (occ c due))
      (λ d. let x = due_only h s c d in (x.object, x.flagged, live_due h s c d))
      (λ n.
      let q : 1 ≤ occ (suc c) (entries h) = omega (arith, entries_occ c) in
      (s.queue.object c q, s.queue.wanting c q, live_reached h s c (entry_reached h s c q)))

  final_queue : QueueOk final.kind final.flags final.queue final.control
  final_queue = record {
    within = omega (arith, left.queued_is, due_room h s, left.kind_length);
    once = each;
    none_empty = entries_zero;
    object = λ c b. let w = entry_was c b in left.kind_out c (live_out h s c w.2) ∙ w.0;
    wanting = λ c b. let w = entry_was c b in ⊎_elim (λ e. e ∙ w.1) (λ r. r.1) (left.flags_out c (live_out h s c w.2));
    rest = λ i b. left.rest i b ∙ s.queue.rest i (omega (arith, left.queued_is));
  }
    where
      each : (x : ℕ) → occ x (entries final) ≤ 1
      each zero = omega (arith, entries_zero)
      each (suc c) = omega (arith, entries_occ c, queued_once h s c)

  pub collect_sound : SoundBut final []
  collect_sound = record {
    fit = refit left.kind_length left.flags_length left.count_length left.queue_length left.control_length s.fit;
    slots = omega (arith, left.slots_length, left.kind_length, s.slots);
    roots = ap length left.roots ∙ s.roots;
    shaped = final_shaped;
    free_count = by_dead (λ c b z. left.count_in c b) (λ c o z. omega (arith, left.count_out c o, s.free_count c (sym (left.kind_out c o) ∙ z), none c (sym (left.kind_out c o) ∙ z)));
    queue = final_queue;
    running_most = omega (arith, left.running_is, s.running_most);
    runs = λ o. omega (arith, left.queued_is, s.runs (omega (arith, left.running_is)));
    counted = final_counted;
    positive = λ c u. omega (arith, final_counted c, live_referred c (used_live c u), occ_nil (suc c));
  }
    where
      -- a free cell is not due
      none : (c : ℕ) → kind_of h c ≡ 0 → occ c due ≡ 0
      none c z = none_of (occ c due) (λ b. omega (arith, (due_only h s c b).object))

  -- ---- just the reached cells are in use

  still_reached : (c : ℕ) → Reached h c → Reached final c
  still_reached c (root i e) = root i (ap (λ (l : List ℕ). get_or l i 0) left.roots ∙ e)
  still_reached c (entry i e) =
      let t : Stands (suc c) (entries final) = occ_find (suc c) (entries final) (omega (arith, entries_occ c, holds_occ (entries h) i c e)) in
      entry t.at t.is
  still_reached c (further {p} r k) = further (still_reached p r) (link_kept p c (live_reached h s p r) k)

  live_now : (c : ℕ) → Live h c → Reached final c
  live_now c m =
      (live_least h s {P = λ (d : ℕ). Live h d × Reached final d}
      (λ p d x k. (live_link h s p d x.0 k, further x.1 (link_kept p d x.0 k)))
      (λ d r. (live_reached h s d r, still_reached d r))
      (λ d b. (live_due h s d b, queue_reached d b)) c m).1
    where
      queue_reached : (d : ℕ) → 1 ≤ occ d due → Reached final d
      queue_reached d b = let t : Stands (suc d) (entries final) = occ_find (suc d) (entries final) (omega (arith, entries_occ d)) in entry t.at t.is

  pub collect_exact : Exact final
  collect_exact c = (λ u. live_now c (used_live c u), reached_used final [] collect_sound c)

  -- ---- there is nothing to queue and to free exactly where the used cells are the reached ones

  exact_due : Exact h → due ≡ []
  exact_due e = occ_empty due (λ c. none_of (occ c due) (λ b. (due_only h s c b).unreached ((e c).0 (omega (arith, (due_only h s c b).object)))))

  exact_dead : Exact h → dead ≡ []
  exact_dead e = occ_empty dead (λ c. none_of (occ c dead) (λ b. (garbage_only h s c b).1 (live_reached h s c ((e c).0 (garbage_only h s c b).0))))

  pub idle_exact : Exact h → (due ≡ []) × (dead ≡ [])
  idle_exact e = (exact_due e, exact_dead e)

  pub exact_idle : due ≡ [] → dead ≡ [] → Exact h
  exact_idle noDue noDead c = (
    λ u. live_least h s {P = Reached h} (λ p d r k. further r k) (λ d r. r) (λ d b. absurd (omega (arith, ap (occ d) noDue, occ_nil d))) c
        (out_live h s c u (ap (occ c) noDead ∙ occ_nil c)),
    reached_used h [] s c,
  )

  -- ---- the slots of what stays, and the cells that are freed

  pub collect_kept : Kept final h.slots
  collect_kept c i u b = left.slots_out c i b (used_out c u)

  -- the cells listed as freed are just those used before and free after
  pub collect_freed : (c : ℕ) → 1 ≤ occ c dead → Used h c × Free final c
  collect_freed c b = ((garbage_only h s c b).0, left.kind_in c b)

  pub freed_collect : (c : ℕ) → Used h c → Free final c → 1 ≤ occ c dead
  freed_collect c u f = by_cases (dec_lt 0 (occ c dead)) (λ b. b) (λ n. absurd (omega (arith, left.kind_out c (omega arith))))
