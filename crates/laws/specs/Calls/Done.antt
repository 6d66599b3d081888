-- Each of the eight calls that is done, one by one, has such an outcome.
-- Assumes nothing.
use Prim.Native.Nat.{ℕ, zero, suc, ◌+◌, ◌*◌, ◌-◌, ◌<◌}
use native.Mathlib.Omega.{arith}
use mathlib.Core.List.{[], ◌∷◌, ◌++◌}
use Rattle.std.specs.Prelude.{false, ◌≡◌, ◌≢◌, length, set, drop}
use Rattle.std.proofs.Math.Path.{refl, ap}
use Rattle.std.proofs.Common.{sym, ◌∙◌}
use Rattle.std.proofs.Math.ListN.{take}
use Rattle.std.proofs.Math.Seq.{get_or-set_other}
use Rattle.rules.specs.Lists.{sum}
use Rattle.rules.specs.Heap.{Heap, running, kind_of, count_of, slot_of, root_at, queue_at, Used, set_root, set_slot, set_running, set_kind, set_flags, set_count, set_queue}
use Rattle.rules.specs.Release.{Work, start, raise, incref, release}
use Rattle.rules.specs.Collect.{collect}
use Rattle.rules.specs.Refusals.{Call, lowest_free, is_fresh, refusal_sound}
use Rattle.rules.specs.Refusals.Call.{FRESH, NEW, CLEAR, COPY, LOAD, STORE, COLLECT, START, FINISH}
use Rattle.rules.specs.Calls.{Result, done, finished, allocate, write_root, write_slot, held, start_run, leave_queue, finish_run, act}
use Rattle.rules.specs.Numbers.{leaving}
use Rattle.rules.specs.Demand3.{stood}
use Rattle.rules.specs.Counts.{release_met, write_root_met, write_slot_met, finish_run_met, act_met, named, placed}
use Rattle.laws.specs.Lists.Tests.{clash}
use Rattle.laws.specs.Lists.Tables.{inside}
use Rattle.laws.specs.Sound.But.{SoundBut}
use Rattle.laws.specs.Reach.Used.{root_used, slot_used}
use Rattle.laws.specs.Release.Advance.{advance_trans}
use Rattle.laws.specs.Release.Taken.{ReleaseLaw, release_sound}
use Rattle.laws.specs.Counts.Noted.{sum-set, noted_then}
use Rattle.laws.specs.Counts.Cascade.{release_noted}
use Rattle.laws.specs.Calls.Write.{write_root_ready, write_slot_ready}
use Rattle.laws.specs.Calls.New.{new_sound}
use Rattle.laws.specs.Calls.Start.{head_used, start_sound}
use Rattle.laws.specs.Calls.Finish.{leave_sound, entries_pop}
use Rattle.laws.specs.Calls.Outcome.{Outcome, outcome_plain, outcome_advance, outcome_collect}
use Rattle.laws.specs.Calls.Lowest.{lowest_free_lem}
use Rattle.laws.specs.Calls.NotRefused.{new_facts, clear_facts, copy_facts, load_facts, store_facts, start_facts, finish_facts}

-- a result that reports a call's work
pub record Performed (h : Heap) (call : Call) (r : Result) : Type 0 where
  pub work : Work
  pub outcome : Outcome h (stood h call 0) (leaving call 0) (act_met h call) (placed h call) work
  pub heap : r.heap ≡ work.heap
  pub refused : r.answer.refused ≡ 0
  pub list : r.freed ≡ work.freed
  pub freed : r.answer.freed ≡ length work.freed
  pub queued : r.answer.queued ≡ length work.queued

module _ (h : Heap) (s : SoundBut h []) where
  -- ---- the writes

  -- what is placed in a root or a slot is counted
  raise_sum : (r : ℕ) → ((c : ℕ) → r ≡ suc c → Used h c) → sum (raise h.count r) ≡ sum h.count + named r
  unfolding raise named
  raise_sum zero target = omega arith
  raise_sum (suc c) target = omega (arith, sum-set h.count c (suc (count_of h c)) (omega (arith, inside h.kind c (target c refl), s.fit.count_size)))

  root_outcome : (to r : ℕ) → to < 64 → ((c : ℕ) → r ≡ suc c → Used h c) → Outcome h h.slots 0 (write_root_met h to r) (named r) (write_root h to r)
  unfolding write_root write_root_met start set_root incref
  root_outcome to r b target =
      let w : Heap = set_root (incref h r) to r in
      let due : SoundBut w (root_at h to ∷ []) = write_root_ready h to r b target s in
      let l : ReleaseLaw (start w) (write_root h to r) [] = release_sound (start w) (root_at h to) [] refl due in
      outcome_advance h w 0 (write_root_met h to r) (named r) (write_root h to r) l.cells l.joined refl refl l.advance l.sound
      (raise_sum r target) (release_noted (start w) (root_at h to) [] refl due)

  slot_outcome : (c i r : ℕ) → i < 8 → kind_of h c ≡ 1 → ((d : ℕ) → r ≡ suc d → Used h d)
      → Outcome h (set h.slots (8 * c + i) r) 0 (write_slot_met h c i r) (named r) (write_slot h c i r)
  unfolding write_slot write_slot_met start set_slot incref
  slot_outcome c i r b object target =
      let w : Heap = set_slot (incref h r) (8 * c + i) r in
      let due : SoundBut w (slot_of h c i ∷ []) = write_slot_ready h c i r b object target s in
      let l : ReleaseLaw (start w) (write_slot h c i r) [] = release_sound (start w) (slot_of h c i) [] refl due in
      outcome_advance h w 0 (write_slot_met h c i r) (named r) (write_slot h c i r) l.cells l.joined refl refl l.advance l.sound
      (raise_sum r target) (release_noted (start w) (slot_of h c i) [] refl due)

  -- two take-offs, one after the other
  finish_outcome : running h ≢ 0 → Outcome h h.slots 1 (finish_run_met h) 0 (finish_run h)
  unfolding finish_run finish_run_met start leave_queue set_root set_running set_flags set_queue
  finish_outcome busy =
      let w : Heap = leave_queue h in
      let r : ℕ = root_at h (running h - 1) in
      let bump : ℕ = queue_at h 0 in
      let v : Work = release (start w) r in
      let due : SoundBut w (r ∷ bump ∷ []) = leave_sound h s busy in
      let one : ReleaseLaw (start w) v (bump ∷ []) = release_sound (start w) r (bump ∷ []) refl due in
      let two : ReleaseLaw v (finish_run h) [] = release_sound v bump [] one.empty one.sound in
      outcome_advance h w 1 (finish_run_met h) 0 (finish_run h) (one.cells ++ two.cells) (one.joined ++ two.joined) refl (sym (ap (drop 1) (entries_pop h s busy)))
      (advance_trans (start w) v (finish_run h) one.cells two.cells one.joined two.joined one.advance two.advance) two.sound
      (omega arith)
      (noted_then (release_met (start w) r) (release_met v bump) (release_noted (start w) r (bump ∷ []) refl due) (release_noted v bump [] one.empty one.sound))

  -- ---- the calls that take nothing off

  new_outcome : (r k f : ℕ) → refusal_sound h (NEW r k f) ≡ 0 → Outcome h h.slots 0 [] 1 (start (allocate h r k f (lowest_free h.kind)))
  unfolding allocate set_root set_count set_flags set_kind
  new_outcome r k f e =
      let c : ℕ = lowest_free h.kind in
      let t = new_facts h r k f e in
      let free : kind_of h c ≡ 0 = lowest_free_lem h.kind t.6 in
      outcome_plain h (allocate h r k f c) 1 (new_sound h s r k f c t.0 t.1 t.2 t.3 t.4 t.5 t.6 free) refl
      (λ d u. omega (arith, get_or-set_other h.kind c d k 0 (λ q. omega (arith, ap (kind_of h) q)))) refl
      (omega (arith, sum-set h.count c 1 (omega (arith, t.6, s.fit.count_size)), s.free_count c free))

  start_outcome : (r : ℕ) → refusal_sound h (START r) ≡ 0 → Outcome h h.slots 0 [] (named (queue_at h 0)) (start (start_run h r))
  unfolding start_run set_running set_root incref
  start_outcome r e =
      let t = start_facts h r e in
      outcome_plain h (start_run h r) (named (queue_at h 0)) (start_sound h s r t.0 t.1 t.3) refl (λ d u. u)
      (ap (λ (n : ℕ). take n h.queue) (get_or-set_other h.control 1 0 (suc r) 0 (λ z. omega arith)))
      (raise_sum (queue_at h 0) (head_used h s t.3))

  -- ---- all of them

  pub performed : (call : Call) → is_fresh call ≡ false → refusal_sound h call ≡ 0 → Performed h call (act h call)
  unfolding is_fresh act done finished stood leaving start act_met placed named
  performed FRESH n e = clash refl n
  performed (NEW r k f) n e = record { work = start (allocate h r k f (lowest_free h.kind)); outcome = new_outcome r k f e; heap = refl; refused = refl; list = refl; freed = refl; queued = refl }
  performed (CLEAR r) n e = record {
    work = write_root h r 0;
    outcome = root_outcome r 0 (clear_facts h r e) (λ c z. absurd (omega arith));
    heap = refl;
    refused = refl;
    list = refl;
    freed = refl;
    queued = refl;
  }
  performed (COPY to from) n e = record {
    work = write_root h to (root_at h from);
    outcome = root_outcome to (root_at h from) (copy_facts h to from e).0 (root_used h [] s from);
    heap = refl;
    refused = refl;
    list = refl;
    freed = refl;
    queued = refl;
  }
  performed (LOAD to o i) n e = record {
    work = write_root h to (slot_of h (held h o) i);
    outcome = root_outcome to (slot_of h (held h o) i) (load_facts h to o i e).0 (slot_used h [] s (8 * held h o + i));
    heap = refl;
    refused = refl;
    list = refl;
    freed = refl;
    queued = refl;
  }
  performed (STORE o i from) n e = record {
    work = write_slot h (held h o) i (root_at h from);
    outcome =
        let t = store_facts h o i from e in
        let is : held h o ≡ t.3.0 = omega (arith, t.3.1) in
        slot_outcome (held h o) i (root_at h from) t.1 (ap (kind_of h) is ∙ t.3.2) (root_used h [] s from);
    heap = refl;
    refused = refl;
    list = refl;
    freed = refl;
    queued = refl;
  }
  performed COLLECT n e = record { work = collect h; outcome = outcome_collect h s; heap = refl; refused = refl; list = refl; freed = refl; queued = refl }
  performed (START r) n e = record { work = start (start_run h r); outcome = start_outcome r e; heap = refl; refused = refl; list = refl; freed = refl; queued = refl }
  performed FINISH n e = record { work = finish_run h; outcome = finish_outcome (finish_facts h e); heap = refl; refused = refl; list = refl; freed = refl; queued = refl }
