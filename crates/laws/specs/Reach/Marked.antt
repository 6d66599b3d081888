-- The marks of COLLECT and the chains of references agree: marked is just what roots and queue reach, so that it can be decided what they reach.
-- Assumes nothing.
use Rattle.std.specs.Prelude.{ℕ, zero, suc, ◌+◌, ◌≤◌, ◌<◌, List, [], ◌++◌, ◌↔◌, ◌≡◌, refl, length, get_or, replicate}
use Rattle.std.proofs.Math.Decide.{ℕ_discrete}
use Rattle.std.proofs.Common.{arith, sym, ◌∙◌}
use Rattle.std.proofs.Math.Logic.{⊎_elim}
use Rattle.std.proofs.Math.ListN.{length-replicate}
use Rattle.rules.specs.Lists.{occ}
use Rattle.rules.specs.Heap.{Heap, cells, entries, slots_of}
use Rattle.rules.specs.Reach.{Link, Chain, Reached}
use Rattle.rules.specs.Reach.Chain.{root, entry, further}
use Rattle.rules.specs.Collect.{reached_marks}
use Rattle.laws.specs.Lists.Tables.{inside, get_or-zeros, slot_entry, slots_most}
use Rattle.laws.specs.Lists.Occ.{occ_at}
use Rattle.laws.specs.Sound.But.{SoundBut, referred_used}
use Rattle.laws.specs.Marking.Marks.{Names, Within, Held, Only, Closed, ClosedMarks}
use Rattle.laws.specs.Marking.Closure.{names-append, names_left, names_right, within-append, closure-length, closure_lists, closure_settled, closure_least, zeros_settled}

-- ---- links and chains

pub link_names : {slots : List ℕ} {p c : ℕ} → Link slots p c → Names (slots_of slots p) c
link_names {slots} {p} l = (l.slot, slot_entry slots p l.slot l.in_cell ∙ l.holds)

pub names_link : (slots : List ℕ) (p c : ℕ) → Names (slots_of slots p) c → Link slots p c
names_link slots p c (i, e) =
    let b : i < 8 = omega (arith, inside (slots_of slots p) i (omega arith), slots_most slots p) in
    record { slot = i; in_cell = b; holds = sym (slot_entry slots p i b) ∙ e }

pub chain_closed : (roots queue slots : List ℕ) → Closed slots (Chain roots queue slots)
chain_closed roots queue slots p c r n = further r (names_link slots p c n)

-- closed marks that hold what roots and queue name hold all that they reach
pub chain_held : (roots queue slots m : List ℕ) → Closed slots (Held m) → ((d : ℕ) → Names roots d → Held m d) → ((d : ℕ) → Names queue d → Held m d)
    → (c : ℕ) → Chain roots queue slots c → Held m c
chain_held roots queue slots m closed r q c (root i e) = r c (i, e)
chain_held roots queue slots m closed r q c (entry i e) = q c (i, e)
chain_held roots queue slots m closed r q c (further {p} x l) = closed p c (chain_held roots queue slots m closed r q p x) (link_names l)

-- ---- in a sound heap

module _ (h : Heap) (s : SoundBut h []) where
  -- rule 3 as a bound: a table whose references are counted
  table_within : (table : List ℕ) → ((c : ℕ) → occ (suc c) table ≤ occ (suc c) h.roots + occ (suc c) h.slots + occ (suc c) (entries h)) → Within (cells h) table
  table_within table counted i = go (get_or table i 0) refl
    where
      go : (r : ℕ) → get_or table i 0 ≡ r → r ≤ cells h
      go zero e = omega arith
      go (suc c) e = inside h.kind c (referred_used h [] s c (omega (arith, counted c, occ_at (suc c) table i (inside table i (omega arith)) e)))

  pub slots_within : Within (cells h) h.slots
  slots_within = table_within h.slots (λ c. omega arith)

  pub roots_within : Within (cells h) h.roots
  roots_within = table_within h.roots (λ c. omega arith)

  pub entries_within : Within (cells h) (entries h)
  entries_within = table_within (entries h) (λ c. omega arith)

  pub reached_length : length (reached_marks h) ≡ cells h
  unfolding reached_marks
  reached_length = closure-length h.slots (replicate (cells h) 0) (h.roots ++ entries h) ∙ length-replicate (cells h) 0

  pub reached_settled : ClosedMarks h.slots (reached_marks h)
  unfolding reached_marks
  reached_settled = closure_settled h.slots (replicate (cells h) 0) (h.roots ++ entries h) (rw length-replicate slots_within) (zeros_settled {slots = h.slots} (cells h)).bits

  reached_lists : (d : ℕ) → Names (h.roots ++ entries h) d → Held (reached_marks h) d
  unfolding reached_marks
  reached_lists = closure_lists h.slots (replicate (cells h) 0) (h.roots ++ entries h) (rw length-replicate (within-append h.roots (entries h) roots_within entries_within))

  pub reached_only : Only (Reached h) (reached_marks h)
  unfolding reached_marks
  reached_only =
      closure_least h.slots (replicate (cells h) 0) (h.roots ++ entries h) (chain_closed h.roots (entries h) h.slots)
      (λ d x. absurd (omega (arith, get_or-zeros (cells h) d)))
      (λ d n. ⊎_elim (λ r. root r.0 r.1) (λ q. entry q.0 q.1) (names-append h.roots (entries h) d n))

  pub reached_held : (c : ℕ) → Reached h c → Held (reached_marks h) c
  reached_held =
      chain_held h.roots (entries h) h.slots (reached_marks h) reached_settled.closed
      (λ d n. reached_lists d (names_left h.roots (entries h) d n))
      (λ d n. reached_lists d (names_right h.roots (entries h) d n))

  -- marked is just what roots and queue reach
  pub reached_marked : (c : ℕ) → (get_or (reached_marks h) c 0 ≡ 1) ↔ Reached h c
  reached_marked c = (λ e. reached_only c (omega arith), λ r. omega (arith, reached_settled.bits c, reached_held c r))

  pub reached? : (c : ℕ) → Dec (Reached h c)
  reached? c = elim (ℕ_discrete (get_or (reached_marks h) c 0) 1) [ yes e ↦ yes ((reached_marked c).0 e) | no n ↦ no (λ r. n ((reached_marked c).1 r)) ]
