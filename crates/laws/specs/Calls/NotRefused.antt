-- What is known of a call that is not refused, on a heap that fits and is sound.
-- Assumes nothing.
use Rattle.std.specs.Prelude.{ℕ, suc, ◌≤◌, ◌<◌, ◌&&◌, ◌≢◌, ◌≡◌, ltb}
use Rattle.std.proofs.Common.{arith}
use Rattle.std.proofs.Math.Bool.{true}
use borrow.Author.Tests.{eqb-true, eqb-false, ltb-true, not-false}
use Rattle.rules.specs.Heap.{Heap, cells, queued, running, kind_of, root_at}
use Rattle.rules.specs.Refusals.{lowest_free, new_ok, conditions, refusal_sound}
use Rattle.rules.specs.Refusals.Call.{NEW, CLEAR, COPY, LOAD, STORE, START, FINISH}
use Rattle.laws.specs.Lists.Tests.{and_left, and_right}
use Rattle.laws.specs.Calls.Lowest.{lowest_le}
use Rattle.laws.specs.Calls.Arguments.{below_two, below_three, new_ok_of, object_ok_of}
use Rattle.laws.specs.Calls.Conditions.{lowest_open}

-- a root that holds an object
abbrev pub HoldsObject : Heap → ℕ → Type 0
HoldsObject h o = (c : ℕ) × (root_at h o ≡ suc c) × (kind_of h c ≡ 1)

module _ (h : Heap) where
  pub new_facts : (r k f : ℕ) → refusal_sound h (NEW r k f) ≡ 0
      → (r < 64) × (root_at h r ≡ 0) × (1 ≤ k) × (k ≤ 3) × (f ≤ 1) × (f ≡ 1 → k ≡ 1) × (lowest_free h.kind < cells h)
  unfolding refusal_sound conditions
  new_facts r k f e =
      let t = lowest_open _ e in
      let numbers : (ltb r 64 && new_ok k f) ≡ true = not-false _ t.0 in
      let p = new_ok_of k f (and_right (ltb r 64) (new_ok k f) numbers) in
      let free : lowest_free h.kind ≢ cells h = eqb-false _ _ t.1.1.0 in (
        ltb-true r 64 (and_left (ltb r 64) (new_ok k f) numbers),
        eqb-true _ _ (not-false _ t.1.0),
        p.0,
        p.1,
        p.2,
        p.3,
        omega (arith, lowest_le h.kind),
      )

  pub clear_facts : (r : ℕ) → refusal_sound h (CLEAR r) ≡ 0 → r < 64
  unfolding refusal_sound conditions
  clear_facts r e = ltb-true r 64 (not-false _ (lowest_open _ e).0)

  pub copy_facts : (to from : ℕ) → refusal_sound h (COPY to from) ≡ 0 → (to < 64) × (from < 64)
  unfolding refusal_sound conditions
  copy_facts to from e = below_two to 64 from 64 (not-false _ (lowest_open _ e).0)

  pub load_facts : (to o s : ℕ) → refusal_sound h (LOAD to o s) ≡ 0 → (to < 64) × (o < 64) × (s < 8) × HoldsObject h o
  unfolding refusal_sound conditions
  load_facts to o s e =
      let t = lowest_open _ e in
      let b = below_three to 64 o 64 s 8 (not-false _ t.0) in
      (b.0, b.1, b.2, object_ok_of h (root_at h o) (not-false _ t.1.1.0))

  pub store_facts : (o s from : ℕ) → refusal_sound h (STORE o s from) ≡ 0 → (o < 64) × (s < 8) × (from < 64) × HoldsObject h o
  unfolding refusal_sound conditions
  store_facts o s from e =
      let t = lowest_open _ e in
      let b = below_three o 64 s 8 from 64 (not-false _ t.0) in
      (b.0, b.1, b.2, object_ok_of h (root_at h o) (not-false _ t.1.1.0))

  pub start_facts : (r : ℕ) → refusal_sound h (START r) ≡ 0 → (r < 64) × (root_at h r ≡ 0) × (running h ≡ 0) × (1 ≤ queued h)
  unfolding refusal_sound conditions
  start_facts r e =
      let t = lowest_open _ e in
      let some : queued h ≢ 0 = eqb-false _ _ t.1.1.1.0 in
      (ltb-true r 64 (not-false _ t.0), eqb-true _ _ (not-false _ t.1.0), eqb-true _ _ (not-false _ t.1.1.0), omega arith)

  pub finish_facts : refusal_sound h FINISH ≡ 0 → running h ≢ 0
  unfolding refusal_sound conditions
  finish_facts e = eqb-false _ _ (lowest_open _ e).0
