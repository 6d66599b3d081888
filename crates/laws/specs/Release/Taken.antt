-- A full take-off leads from a heap that is sound but for references that are counted and stand nowhere to one that is sound but for one fewer.
-- Assumes nothing.
use Rattle.std.specs.Prelude.{ℕ, suc, ◌+◌, ◌≤◌, List, [], ◌∷◌, ◌++◌, map, ◌≡◌, length}
use Rattle.std.proofs.Math.Decide.{ℕ_discrete}
use Rattle.std.proofs.Common.{arith, sym, ap, ◌∙◌, length-append, length-take-le}
use Rattle.std.proofs.Math.Path.{subst⁻¹}
use Rattle.laws.specs.Lists.Tests.{none_of}
use Rattle.rules.specs.Lists.{occ}
use Rattle.rules.specs.Heap.{queued, kind_of, count_of, entries}
use Rattle.rules.specs.Release.{Work, release}
use Rattle.laws.specs.Lists.Occ.{occ_three, occ_nil}
use Rattle.laws.specs.Sound.But.{Shaped, SoundBut}
use Rattle.laws.specs.Release.Balance.{Balanced, Advance}
use Rattle.laws.specs.Release.Serve.{Settled, Released, release_released}

-- a sound heap is settled: what is held besides the slots is the roots, and the references that stand nowhere
pub sound_settled : (w : Work) (extra : List ℕ) → w.pending ≡ [] → SoundBut w.heap extra → Settled w (extra ++ w.heap.roots)
sound_settled w extra e s =
    let none : (c : ℕ) → occ c [] + occ c w.pending ≡ 0 = λ c. omega (arith, occ_nil c, ap (occ c) e) in
    record {
      empty = e;
      draining = record {
        slots = s.slots;
        plain_slots = s.shaped.plain_slots;
        balanced = record {
          fit = s.fit;
          queue = s.queue;
          free = s.free_count;
          balance = λ c. omega (arith, s.counted c, occ_three (suc c) w.heap.slots extra w.heap.roots);
          waits = λ c u z. omega (arith, s.positive c u);
          used = λ c o. omega (arith, none c);
          dead = λ c o. omega (arith, none c);
          gone = λ c o. omega (arith, occ_nil c);
          listed = λ c o. omega (arith, occ_nil c);
          distinct = λ c. omega (arith, none c);
        };
      };
    }

-- freed cells are all zeros and the others stay, so that kinds, flags and slots go together as before
advance_shaped : (w v : Work) (cells joined : List ℕ) → Advance w v cells joined
    → Shaped w.heap.kind w.heap.flags w.heap.slots → Shaped v.heap.kind v.heap.flags v.heap.slots
advance_shaped w v cells joined a s =
    let still : (c : ℕ) → 1 ≤ kind_of v.heap c → occ c cells ≡ 0 =
    λ c u. none_of (occ c cells) (λ o. omega (arith, a.no_kind c o)) in
    record {
      kinds = λ c. elim (ℕ_discrete (occ c cells) 0) [ yes e ↦ omega (arith, a.kind c e, s.kinds c) | no n ↦ omega (arith, a.no_kind c (omega arith)) ];
      free_flags = λ c z. elim (ℕ_discrete (occ c cells) 0) [ yes e ↦ a.flags c e ∙ s.free_flags c (sym (a.kind c e) ∙ z) | no n ↦ a.no_flags c (omega arith) ];
      free_slots = λ c k h z. elim (ℕ_discrete (occ c cells) 0) [ yes e ↦ a.slots c k h e ∙ s.free_slots c k h (sym (a.kind c e) ∙ z) | no n ↦ a.no_slots c k h (omega arith) ];
      plain_flags = λ c u. let e : occ c cells ≡ 0 = still c (omega arith) in a.flags c e ∙ s.plain_flags c (omega (arith, a.kind c e));
      plain_slots = λ c k h u. let e : occ c cells ≡ 0 = still c (omega arith) in a.slots c k h e ∙ s.plain_slots c k h (omega (arith, a.kind c e));
      object_flags = λ c u. let e : occ c cells ≡ 0 = still c (omega arith) in omega (arith, a.flags c e, s.object_flags c (sym (a.kind c e) ∙ u));
      object_not_two = λ c u t. let e : occ c cells ≡ 0 = still c (omega arith) in s.object_not_two c (sym (a.kind c e) ∙ u) (sym (a.flags c e) ∙ t);
    }

-- what is settled after an advance from a sound heap is sound
pub advance_sound : (w v : Work) (before after cells joined : List ℕ) → SoundBut w.heap before → Advance w v cells joined
    → Settled v (after ++ v.heap.roots) → SoundBut v.heap after
advance_sound w v before after cells joined s a t =
    let b : Balanced v [] [] (v.heap.slots ++ (after ++ v.heap.roots)) = t.draining.balanced in
    record {
      fit = b.fit;
      slots = t.draining.slots;
      roots = ap length a.roots ∙ s.roots;
      shaped = advance_shaped w v cells joined a s.shaped;
      free_count = b.free;
      queue = b.queue;
      running_most = omega arith;
      runs = λ o. omega (
        arith,
        s.runs (omega arith),
        ap length a.entered,
        length-append (entries w.heap) (map suc joined),
        length-take-le (queued w.heap) w.heap.queue (omega arith),
        length-take-le (queued v.heap) v.heap.queue (omega arith),
      );
      counted = λ c. omega (arith, b.balance c, occ_three (suc c) v.heap.slots after v.heap.roots);
      positive = λ c u. elim (ℕ_discrete (count_of v.heap c) 0) [
        | yes e ↦ omega (arith, b.waits c u e, occ_nil c, ap (occ c) t.empty)
        | no n ↦ omega arith
      ];
    }

-- A full take-off of r, where r is counted and stands nowhere; the other references in `extra` stay counted.
pub record ReleaseLaw (w v : Work) (extra : List ℕ) : Type 0 where
  pub cells : List ℕ
  pub joined : List ℕ
  pub sound : SoundBut v.heap extra
  pub empty : v.pending ≡ []
  pub advance : Advance w v cells joined

pub release_sound : (w : Work) (r : ℕ) (extra : List ℕ) → w.pending ≡ [] → SoundBut w.heap (r ∷ extra) → ReleaseLaw w (release w r) extra
release_sound w r extra e s =
    let q : Released w (release w r) (extra ++ w.heap.roots) = release_released w r (extra ++ w.heap.roots) (sound_settled w (r ∷ extra) e s) in
    record {
      cells = q.cells;
      joined = q.joined;
      sound = advance_sound w (release w r) (r ∷ extra) extra q.cells q.joined s q.advance
          (subst⁻¹ (λ (l : List ℕ). Settled (release w r) (extra ++ l)) q.advance.roots q.settled);
      empty = q.settled.empty;
      advance = q.advance;
    }
