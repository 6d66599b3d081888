-- COLLECT's two markings on a sound heap: which cells are due for a finalizer, which stay and which are garbage.
-- Assumes nothing.
use Prim.Native.Nat.{ℕ, zero, suc, ◌+◌, ◌≤◌, ◌<◌}
use native.Mathlib.Omega.{arith}
use Rattle.std.proofs.Math.Decide.{dec_lt}
use Rattle.std.specs.Prelude.{List, [], ◌∷◌, ◌++◌, map, Bool, ◌&&◌, ◌≡◌, refl, ◌≢◌, length}
use Rattle.std.proofs.Math.Bool.{true, not}
use Rattle.std.proofs.Common.{ap, length-append, length-take-le}
use Rattle.std.proofs.Math.Logic.{by_cases}
use Rattle.std.proofs.Math.Dec.{eqb}
use Rattle.std.proofs.Math.ListN.{get_or}
use Rattle.std.proofs.lemmas.List.{length-map}
use borrow.Author.Tests.{eqb-true, eqb-false, eq-eqb, ne_eqb, not-true}
use Rattle.rules.specs.Lists.{occ}
use Rattle.rules.specs.Heap.{Heap, cells, queued, kind_of, flags_of, entries, Used}
use Rattle.rules.specs.Reach.{Link, Reached}
use Rattle.rules.specs.Reach.Chain.{entry}
use Rattle.rules.specs.Release.{finalizable}
use Rattle.rules.specs.Collect.{reached_marks, unreached_finalizable, kept_marks, garbage}
use Rattle.laws.specs.Lists.Tables.{inside}
use Rattle.laws.specs.Lists.Tests.{none_of, and_join, and_left, and_right}
use Rattle.laws.specs.Lists.Occ.{Stands, occ-append, occ_find, occ_refs, zero_refs}
use Rattle.laws.specs.Lists.Pigeonhole.{pigeonhole, once_cons, below_cons}
use Rattle.laws.specs.Lists.Select.{select_only, select_once, select_in}
use Rattle.laws.specs.Marking.Marks.{Names, Held, Bits, Within, ClosedMarks}
use Rattle.laws.specs.Marking.Closure.{closure_keeps, closure_lists, closure_settled, closure_least}
use Rattle.laws.specs.Sound.But.{SoundBut}
use Rattle.laws.specs.Release.Decref.{finalizable_kind, finalizable_flags}
use Rattle.laws.specs.Reach.Used.{holds_occ, link_used, reached_used}
use Rattle.laws.specs.Reach.Marked.{link_names, names_link, slots_within, reached_length, reached_settled, reached_only, reached_held}

-- marked in the end
abbrev pub Live : Heap → ℕ → Type 0
Live h c = Held (kept_marks h) c

-- an unreached object with a finalizer to run
pub record Due (h : Heap) (c : ℕ) : Type 0 where
  pub range : c < cells h
  pub object : kind_of h c ≡ 1
  pub flagged : flags_of h c ≡ 1
  pub unreached : ¬ Reached h c

module _ (h : Heap) (s : SoundBut h []) where
  -- ---- the cells that are due for a finalizer

  pub due_only : (c : ℕ) → 1 ≤ occ c (unreached_finalizable h) → Due h c
  unfolding unreached_finalizable
  due_only c b =
      let r = select_only (λ d. finalizable h d && eqb (get_or (reached_marks h) d 0) 0) (cells h) c b in
      let f : finalizable h c ≡ true = and_left (finalizable h c) _ r.1 in
      let z : get_or (reached_marks h) c 0 ≡ 0 = eqb-true _ 0 (and_right (finalizable h c) _ r.1) in
      record { range = r.0; object = finalizable_kind h c f; flagged = finalizable_flags h c f; unreached = λ x. omega (arith, reached_held h s c x) }

  pub due_once : (c : ℕ) → occ c (unreached_finalizable h) ≤ 1
  unfolding unreached_finalizable
  due_once c = select_once (λ d. finalizable h d && eqb (get_or (reached_marks h) d 0) 0) (cells h) c

  -- ---- the cells that stay

  due_names : (c : ℕ) → 1 ≤ occ c (unreached_finalizable h) → Names (map suc (unreached_finalizable h)) c
  due_names c b = let t : Stands (suc c) (map suc (unreached_finalizable h)) = occ_find _ _ (omega (arith, occ_refs c (unreached_finalizable h))) in (t.at, t.is)

  names_due : (c : ℕ) → Names (map suc (unreached_finalizable h)) c → 1 ≤ occ c (unreached_finalizable h)
  names_due c n = omega (arith, holds_occ (map suc (unreached_finalizable h)) n.0 c n.1, occ_refs c (unreached_finalizable h))

  kept_settled : ClosedMarks h.slots (kept_marks h)
  unfolding kept_marks
  kept_settled = closure_settled h.slots (reached_marks h) (map suc (unreached_finalizable h)) (rw (reached_length h s) (slots_within h s)) (reached_settled h s).bits

  -- every mark is 0 or 1
  pub kept_bits : Bits (kept_marks h)
  kept_bits = kept_settled.bits

  pub live_reached : (c : ℕ) → Reached h c → Live h c
  unfolding kept_marks
  live_reached c r = closure_keeps h.slots (reached_marks h) (map suc (unreached_finalizable h)) c (reached_held h s c r)

  -- a table of cells that are due has no entry above N
  pub due_within : Within (length (reached_marks h)) (map suc (unreached_finalizable h))
  due_within i = go (get_or (map suc (unreached_finalizable h)) i 0) refl
    where
      go : (x : ℕ) → get_or (map suc (unreached_finalizable h)) i 0 ≡ x → x ≤ length (reached_marks h)
      go zero e = omega arith
      go (suc c) e = omega (arith, reached_length h s, (due_only c (names_due c (i, e))).range)

  pub live_due : (c : ℕ) → 1 ≤ occ c (unreached_finalizable h) → Live h c
  unfolding kept_marks
  live_due c b = closure_lists h.slots (reached_marks h) (map suc (unreached_finalizable h)) due_within c (due_names c b)

  pub live_link : (p c : ℕ) → Live h p → Link h.slots p c → Live h c
  live_link p c m k = kept_settled.closed p c m (link_names k)

  -- and no others: what holds of the reached and of those due, and follows along slots, holds of all that stay
  pub live_least : {P : ℕ → Type 0} → ((p c : ℕ) → P p → Link h.slots p c → P c) → ((c : ℕ) → Reached h c → P c)
      → ((c : ℕ) → 1 ≤ occ c (unreached_finalizable h) → P c) → (c : ℕ) → Live h c → P c
  unfolding kept_marks
  live_least along reached due =
      closure_least h.slots (reached_marks h) (map suc (unreached_finalizable h)) (λ p c x n. along p c x (names_link h.slots p c n))
      (λ c m. reached c (reached_only h s c m)) (λ c n. due c (names_due c n))

  -- all that stays is in use
  pub live_used : (c : ℕ) → Live h c → Used h c
  live_used = live_least (λ p c u k. link_used h [] s p c k) (reached_used h [] s) (λ c b. omega (arith, (due_only c b).object))

  -- ---- the garbage

  abbrev is_garbage : ℕ → Bool
  is_garbage c = not (eqb (kind_of h c) 0) && eqb (get_or (kept_marks h) c 0) 0

  pub garbage_only : (c : ℕ) → 1 ≤ occ c (garbage h) → Used h c × ¬ Live h c
  unfolding garbage
  garbage_only c b =
      let r = select_only is_garbage (cells h) c b in
      let u : kind_of h c ≢ 0 = eqb-false _ 0 (not-true _ (and_left (not (eqb (kind_of h c) 0)) _ r.1)) in
      let z : get_or (kept_marks h) c 0 ≡ 0 = eqb-true _ 0 (and_right (not (eqb (kind_of h c) 0)) _ r.1) in
      (omega arith, λ m. omega arith)

  pub garbage_in : (c : ℕ) → Used h c → ¬ Live h c → 1 ≤ occ c (garbage h)
  unfolding garbage
  garbage_in c u n =
      let z : get_or (kept_marks h) c 0 ≡ 0 = none_of (get_or (kept_marks h) c 0) (λ m. n m) in
      select_in is_garbage (cells h) c (inside h.kind c u) (and_join (ap not (ne_eqb (kind_of h c) 0 (λ e. omega arith))) (eq-eqb _ 0 z))

  pub garbage_once : (c : ℕ) → occ c (garbage h) ≤ 1
  unfolding garbage
  garbage_once c = select_once is_garbage (cells h) c

  pub live_out : (c : ℕ) → Live h c → occ c (garbage h) ≡ 0
  live_out c m = none_of (occ c (garbage h)) (λ b. (garbage_only c b).1 m)

  -- used and no garbage stays
  pub out_live : (c : ℕ) → Used h c → occ c (garbage h) ≡ 0 → Live h c
  out_live c u o = by_cases (dec_lt 0 (get_or (kept_marks h) c 0)) (λ m. m) (λ n. absurd (omega (arith, garbage_in c u n)))

  -- ---- the queue has room for those that are due: its entries are distinct cells, and they are not among them

  pub entry_reached : (c : ℕ) → 1 ≤ occ (suc c) (entries h) → Reached h c
  entry_reached c b = let t : Stands (suc c) (entries h) = occ_find (suc c) (entries h) b in entry t.at t.is

  pub queued_once : (c : ℕ) → occ (suc c) (entries h) + occ c (unreached_finalizable h) ≤ 1
  queued_once c =
      by_cases (dec_lt 0 (occ c (unreached_finalizable h)))
      (λ b. by_cases (dec_lt 0 (occ (suc c) (entries h))) (λ q. absurd ((due_only c b).unreached (entry_reached c q))) (λ q. omega (arith, due_once c)))
      (λ n. omega (arith, s.queue.once (suc c)))

  pub due_room : queued h + length (unreached_finalizable h) ≤ cells h
  due_room =
      omega (
        arith,
        pigeonhole (suc (cells h)) (0 ∷ joint) (once_cons 0 joint none once) (below_cons (suc (cells h)) 0 joint (omega arith) small),
        length-append (entries h) (map suc (unreached_finalizable h)),
        length-map (unreached_finalizable h) suc,
        length-take-le (queued h) h.queue (omega (arith, s.queue.within, s.fit.queue_size)),
      )
    where
      joint : List ℕ
      joint = entries h ++ map suc (unreached_finalizable h)

      none : occ 0 joint ≡ 0
      none = omega (arith, occ-append 0 (entries h) (map suc (unreached_finalizable h)), s.queue.none_empty, zero_refs (unreached_finalizable h))

      sum : (c : ℕ) → occ (suc c) joint ≡ occ (suc c) (entries h) + occ c (unreached_finalizable h)
      sum c = omega (arith, occ-append (suc c) (entries h) (map suc (unreached_finalizable h)), occ_refs c (unreached_finalizable h))

      once : (x : ℕ) → occ x joint ≤ 1
      once zero = omega (arith, none)
      once (suc c) = omega (arith, sum c, queued_once c)

      small : (x : ℕ) → 1 ≤ occ x joint → x < suc (cells h)
      small zero o = omega arith
      small (suc c) o =
          by_cases (dec_lt 0 (occ c (unreached_finalizable h)))
          (λ b. omega (arith, (due_only c b).range))
          (λ n. omega (arith, inside h.kind c (omega (arith, s.queue.object c (omega (arith, sum c))))))
