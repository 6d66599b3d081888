-- What FINISH's code writes before its take-offs is what the rules write, and leaves two references to take off.
-- Assumes nothing.
use Prim.Native.Nat.{ℕ, ◌-◌, ◌≤◌}
use native.Mathlib.Omega.{arith}
use mathlib.Core.List.{List, [], ◌∷◌}
use mathlib.Core.Logic.{◌≢◌}
use mathlib.Core.Path.{◌≡◌, refl, ap, subst, subst⁻¹}
use lib.ListN.{set}
use Rattle.rules.specs.declared.Answer.{Answer}
use Rattle.rules.specs.Heap.{Heap, tables, cells, queued, running, root_at, queue_at, set_root, set_flags, set_queue, set_running}
use Rattle.rules.specs.Sound.{Ready}
use Rattle.rules.specs.Release.{start, release}
use Rattle.rules.specs.Refusals.{is_fresh}
use Rattle.rules.specs.Refusals.Call.{FINISH}
use Rattle.rules.specs.Calls.{leave_queue, finish_run, act}
use Rattle.laws.specs.Lists.Tables.{inside}
use Rattle.laws.specs.Sound.But.{SoundBut}
use Rattle.laws.specs.Sound.Facts.{ready_facts}
use Rattle.laws.specs.Calls.Cases.{finish_goes}
use Rattle.laws.specs.Calls.Inner.{Ran}
use Rattle.laws.specs.Calls.Finish.{head_cell, head_object, leave_sound}
use Rattle.release.specs.Write.{WorkFinished}
use Rattle.finalizers.specs.Finish.{Popped, Leaves, BothReleasable}
use Rattle.release.proofs.Written.{wrote_ran}
use Rattle.finalizers.proofs.Both.{both_releasable}

-- the writes
pub queue_left : (h k : Heap) {head run : ℕ} → Popped h k → head ≡ queue_at h 0 - 1 → run ≡ running h - 1
    → tables k.kind (set k.flags head 3) k.count k.slots (set k.roots run 0) k.queue (set k.control 1 0) ≡ leave_queue h
unfolding leave_queue set_root set_running set_flags set_queue
queue_left h k p top run =
    λ j. tables (p j).kind (set (p j).flags (top j) 3) (p j).count (p j).slots (set (p j).roots (run j) 0) (p j).queue (set (p j).control 1 0)

module _ (h : Heap) (ok : Ready h) (busy : running h ≢ 0) where
  sound_before : SoundBut h []
  sound_before = ready_facts ok

  some : 1 ≤ queued h
  some = sound_before.runs (omega arith)

  -- the head names a cell
  pub head_names : (1 ≤ queue_at h 0) × (queue_at h 0 ≤ cells h)
  head_names =
      let s = sound_before in
      let c = head_cell h s some in
      (omega arith, omega (arith, inside h.kind (queue_at h 0 - 1) (omega (arith, head_object h s some))))

  -- they may be made
  pub leaves : {head run : ℕ} → head ≡ queue_at h 0 - 1 → run ≡ running h - 1 → Leaves h head run
  leaves head run =
      let s = sound_before in
      let names = head_names in
      record {
        waits = record { some = some; within = omega (arith, s.queue.within, s.fit.queue_size); rest = s.queue.rest; control_size = s.fit.control_size };
        names_head = omega arith;
        head_cell = omega (arith, s.fit.flags_size);
        runs = omega arith;
        stands = omega (arith, s.running_most, s.roots);
      }

  module _ {g : Heap} (left : g ≡ leave_queue h) {i : ℕ} (run : i ≡ running h - 1) where
    -- what the running root held and the bump of the head are counted and stand nowhere
    pub take-ready : BothReleasable g (root_at h i) (queue_at h 0)
    take-ready =
        rw run
        (both_releasable g (root_at h (running h - 1)) (queue_at h 0)
        (subst⁻¹ (λ (x : Heap). SoundBut x (root_at h (running h - 1) ∷ queue_at h 0 ∷ [])) left (leave_sound h sound_before busy)))

    -- once they are off, the call is done
    pub finish_ran : {k : Heap} {room l : List ℕ} {a : Answer}
        → WorkFinished (cells g) (release (release (start g) (root_at h i)) (queue_at h 0)) k room l a → Ran FINISH h room k l a
    unfolding act is_fresh finish_run leave_queue set_root set_running set_flags set_queue
    finish_ran {k} {room} {l} {a} w =
        let size : cells g ≡ cells h = ap (λ (x : Heap). cells x) left in
        wrote_ran ok refl (finish_goes h busy) refl
        (subst (λ (x : Heap). WorkFinished (cells h) (release (release (start x) (root_at h (running h - 1))) (queue_at h 0)) k room l a) left
        (rw (run, size) at w))
