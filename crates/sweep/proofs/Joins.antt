-- Laws of the queueing loop: one cell joins or none, one after another, and the queue keeps room for those to come.
-- Assumes nothing.
use Prim.Native.Nat.{ℕ, suc, ◌+◌, ◌≤◌, ◌<◌}
use native.Mathlib.Numerals.{add-one}
use native.Mathlib.Omega.{arith}
use mathlib.Core.List.{List, [], ◌∷◌, ◌++◌}
use mathlib.Core.Bool.{Bool, true, false}
use mathlib.Core.Path.{◌≡◌, refl, sym, ap, subst, subst⁻¹, ◌∙◌}
use lib.ListN.{length, get_or, set, length-append}
use Rattle.numbers.specs.declared.cell.Cell.{Cell}
use Rattle.rules.specs.Lists.{occ, select}
use Rattle.rules.specs.Heap.{Heap, tables, cells, queued, set_count, set_queue, enqueue}
use Rattle.rules.specs.Words.{bits_of}
use Rattle.rules.specs.Collect.{enqueue_all}
use Rattle.laws.specs.Lists.Occ.{occ-append, occ_one}
use Rattle.laws.specs.Lists.Select.{select_only, select_next, select_rest}
use Rattle.laws.specs.Sound.But.{refit}
use Rattle.laws.specs.Collect.Phases.{Enqueued, enqueued}
use Rattle.laws.specs.Collect.Append.{enqueue-append}
use Rattle.sweep.specs.Phases.{is_finalizable, is_due, due_of, only, QueueRoom, Queued}
use Rattle.sweep.proofs.Searches.{Turn}

-- ---- one cell

module _ {h : Heap} (c : ℕ) {b : Bool} where
  -- it isn't due
  pub queued_none : b ≡ false → Queued h (only b c) h 0
  unfolding enqueue_all
  queued_none e = record { heap = rw e refl; many = rw e refl }

  -- it is: the entries written are those of cell c and of the queue's end, by the numbers that stand there
  pub queued_one : {i n e r m : ℕ} → b ≡ true → i ≡ c → n ≡ get_or h.count c 0 + 1 → e ≡ queued h → r ≡ c + 1 → m ≡ queued h + 1
      → Queued h (only b c) (tables h.kind h.flags (set h.count i n) h.slots h.roots (set h.queue e r) (set h.control 0 m)) 1
  unfolding enqueue_all set_count enqueue set_queue
  queued_one due at more end is longer =
      let n₁ = more ∙ add-one (get_or h.count c 0) in
      let r₁ = is ∙ add-one c in
      let m₁ = longer ∙ add-one (queued h) in
      record {
        heap = rw due (λ j. tables h.kind h.flags (set h.count (at j) (n₁ j)) h.slots h.roots (set h.queue (end j) (r₁ j)) (set h.control 0 (m₁ j)));
        many = rw due refl;
      }

  -- its count may rise
  pub count_rises : b ≡ true → QueueRoom h (only b c) → get_or h.count c 0 + 1 < 65536
  count_rises e room =
      let one : QueueRoom h (c ∷ []) = subst (λ (b : Bool). QueueRoom h (only b c)) e room in
      omega (arith, one.small c, occ_one c c refl)

-- ---- all cells that pass

-- before the first one
pub queued_start : {h : Heap} (p : ℕ → Bool) → Queued h (select p 0) h 0
unfolding enqueue_all select
queued_start p = record { heap = refl; many = refl }

-- the passed cells and this one are among all
among : (p : ℕ → Bool) (c n : ℕ) → c < n → (rest : List ℕ) × (select p n ≡ (select p c ++ only (p c) c) ++ rest)
among p c n h = let r = select_rest p (c + 1) n (omega arith) in (r.0, r.1 ∙ ap (λ (l : List ℕ). l ++ r.0) (select_next p c))

-- those below c joined
module _ {h g : Heap} {r : ℕ} (p : ℕ → Bool) (c : ℕ) (inside : c < cells h) (room : QueueRoom h (select p (cells h))) (a : Queued h (select p c) g r) where
  all_cells : (rest : List ℕ) × (select p (cells h) ≡ (select p c ++ only (p c) c) ++ rest)
  all_cells = among p c (cells h) inside

  sum : length (select p (cells h)) ≡ length (select p c) + length (only (p c) c) + length all_cells.0
  sum = ap length all_cells.1 ∙ length-append (select p c ++ only (p c) c) all_cells.0 ∙ ap (λ (x : ℕ). x + length all_cells.0) (length-append (select p c) (only (p c) c))

  occs : (x : ℕ) → occ x (select p (cells h)) ≡ occ x (select p c) + occ x (only (p c) c) + occ x all_cells.0
  occs x = ap (occ x) all_cells.1 ∙ occ-append x (select p c ++ only (p c) c) all_cells.0 ∙ ap (λ (y : ℕ). y + occ x all_cells.0) (occ-append x (select p c) (only (p c) c))

  passed : Enqueued h g (select p c)
  passed =
      subst⁻¹ (λ (k : Heap). Enqueued h k (select p c)) a.heap
      (enqueued h (select p c) room.fit.control_size (omega (arith, room.room, room.fit.queue_size, sum))
      (λ x o. omega (arith, room.fit.count_size, select_only p c x o)))

  -- what the loop's next turn asks
  room_turn : QueueRoom g (only (p c) c)
  room_turn = record {
    fit = refit (ap length passed.kind) (ap length passed.flags) passed.count_length passed.queue_length passed.control_length room.fit;
    room = omega (arith, room.room, sum, passed.queued_is, ap length passed.kind);
    small = λ x. omega (arith, room.small x, occs x, passed.count x);
  }

  -- the number queued stays small
  queued_small : r + length (only (p c) c) ≤ 1024
  queued_small = omega (arith, a.many, room.room, room.fit.small, sum)

  -- one cell more
  queued_next : {k : Heap} {d : ℕ} → Queued g (only (p c) c) k d → Queued h (select p (suc c)) k (r + d)
  queued_next b = rw (ap (select p) (sym (add-one c)) ∙ select_next p c) (record {
    heap = b.heap ∙ ap (λ (k : Heap). enqueue_all k (only (p c) c)) a.heap ∙ sym (enqueue-append h (select p c) (only (p c) c));
    many = omega (arith, a.many, b.many, length-append (select p c) (only (p c) c));
  })

-- ---- a turn of the loop

abbrev pub due_in : Heap → List ℕ → ℕ → Bool
due_in h marked = is_due h.kind h.flags (bits_of (cells h) marked)

module _ {h g : Heap} {used marked : List ℕ} {from r : ℕ} {cell : Cell} {rest : List ℕ} (t : Turn h.kind used marked from cell rest)
    (room : QueueRoom h (due_of h.kind h.flags (bits_of (cells h) marked)))
    (a : Queued h (select (due_in h marked) from) g r) where
  below : Queued h (select (due_in h marked) cell.0) g r
  below = rw (t.due_passed h.flags) a

  left_as : Enqueued h g (select (due_in h marked) cell.0)
  left_as = passed (due_in h marked) cell.0 t.inside room below

  pub cell_stands : cell.0 < cells g
  cell_stands = omega (arith, t.inside, ap length left_as.kind)

  -- kinds and flags are what they were
  same : is_finalizable g.kind g.flags cell.0 ≡ due_in h marked cell.0
  same = (λ j. is_finalizable (left_as.kind j) (left_as.flags j) cell.0) ∙ t.due h.flags

  pub cell_room : QueueRoom g (only (is_finalizable g.kind g.flags cell.0) cell.0)
  cell_room = subst⁻¹ (λ (b : Bool). QueueRoom g (only b cell.0)) same (room_turn (due_in h marked) cell.0 t.inside room below)

  module _ {k : Heap} {d : ℕ} (b : Queued g (only (is_finalizable g.kind g.flags cell.0) cell.0) k d) where
    one : Queued g (only (due_in h marked cell.0) cell.0) k d
    one = subst (λ (x : Bool). Queued g (only x cell.0) k d) same b

    pub cell_joins : Queued h (select (due_in h marked) (suc cell.0)) k (r + d)
    cell_joins = queued_next (due_in h marked) cell.0 t.inside room below one

    pub few_joined : r + d ≤ 1024
    few_joined = omega (arith, queued_small (due_in h marked) cell.0 t.inside room below, one.many)
