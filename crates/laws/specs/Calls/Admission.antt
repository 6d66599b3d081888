-- What `step` is where a call is refused and where it is done; what every call but FRESH asks of the tables first; FRESH itself.
-- Assumes nothing.
use Rattle.std.specs.Prelude.{ℕ, zero, suc, ◌*◌, ◌+◌, ◌≤◌, List, true, false, cond, ◌≢◌, ◌⊎◌, ◌≡◌, refl, length, replicate}
use Rattle.std.proofs.Common.{arith, inl, inr, ⊎_elim, sym, ◌∙◌}
use Rattle.std.proofs.lemmas.List.{length-replicate}
use Rattle.rules.specs.Heap.{Heap, tables, cells, fresh}
use Rattle.rules.specs.Sound.{Sized, Ready}
use Rattle.rules.specs.Check.{fits, sound}
use Rattle.rules.specs.Refusals.{Call, number, lowest, conditions, is_fresh, refusal, refusal_sound}
use Rattle.rules.specs.Refusals.Call.{FRESH}
use Rattle.rules.specs.Calls.{answers, refuse, done, act, by_refusal, step}
use Rattle.laws.specs.Lists.Tests.{split}
use Rattle.laws.specs.Lists.Tables.{get_or-zeros}
use Rattle.laws.specs.Sound.Reflect.{sized_fits}
use Rattle.laws.specs.Sound.Facts.{ready_tests, tests_ready}

-- ---- refused or done

pub step_refused : (h : Heap) (call : Call) (r : ℕ) → r ≡ refusal h call → r ≢ 0 → step h call ≡ refuse h r
unfolding step by_refusal
step_refused h call zero e n = absurd (n refl)
step_refused h call (suc r) e n = rw (← e) refl

pub step_done : (h : Heap) (call : Call) → refusal h call ≡ 0 → step h call ≡ act h call
unfolding step by_refusal
step_done h call e = rw e refl

-- heaps of equal tables
pub tables_eq : {k k' f f' n n' s s' r r' q q' w w' : List ℕ} → k ≡ k' → f ≡ f' → n ≡ n' → s ≡ s' → r ≡ r' → q ≡ q' → w ≡ w'
    → tables k f n s r q w ≡ tables k' f' n' s' r' q' w'
tables_eq a b c d e g h = cc

-- ---- the refusals that all calls share

pub refusal_size : (h : Heap) (call : Call) → fits h ≡ false → refusal h call ≡ 1
unfolding refusal lowest number
refusal_size h call e = rw e refl

pub refusal_damaged : (h : Heap) (call : Call) → is_fresh call ≡ false → fits h ≡ true → sound h ≡ false → refusal h call ≡ 2
unfolding refusal lowest number
refusal_damaged h call n e f = rw (e, n, f) refl

-- 1 SIZE where the tables do not fit, else 2 DAMAGED where the heap is not sound, else 0: what every call but FRESH asks first
unfoldable pub admission : Heap → ℕ
admission h = cond (fits h) (cond (sound h) 0 2) 1

pub admission_size : (h : Heap) → fits h ≡ false → admission h ≡ 1
unfolding admission
admission_size h e = rw e refl

pub admission_damaged : (h : Heap) → fits h ≡ true → sound h ≡ false → admission h ≡ 2
unfolding admission
admission_damaged h e f = rw (e, f) refl

pub admission_sound : (h : Heap) → fits h ≡ true → sound h ≡ true → admission h ≡ 0
unfolding admission
admission_sound h e f = rw (e, f) refl

-- a call that is not admitted is refused by that number; where it is admitted, the tables fit and the heap is sound
pub not_admitted : (h : Heap) (call : Call) → is_fresh call ≡ false → admission h ≢ 0 → admission h ≡ refusal h call
not_admitted h call n a = go (split (fits h)) (split (sound h))
  where
    go : (fits h ≡ true) ⊎ (fits h ≡ false) → (sound h ≡ true) ⊎ (sound h ≡ false) → admission h ≡ refusal h call
    go (inr e) s = admission_size h e ∙ sym (refusal_size h call e)
    go (inl e) (inr s) = admission_damaged h e s ∙ sym (refusal_damaged h call n e s)
    go (inl e) (inl s) = absurd (a (admission_sound h e s))

pub admitted : (h : Heap) → admission h ≡ 0 → (fits h ≡ true) × (sound h ≡ true)
admitted h a = go (split (fits h)) (split (sound h))
  where
    go : (fits h ≡ true) ⊎ (fits h ≡ false) → (sound h ≡ true) ⊎ (sound h ≡ false) → (fits h ≡ true) × (sound h ≡ true)
    go (inr e) s = absurd (omega (arith, admission_size h e))
    go (inl e) (inr s) = absurd (omega (arith, admission_damaged h e s))
    go (inl e) (inl s) = (e, s)

pub ready : (h : Heap) → admission h ≡ 0 → Ready h
ready h a = let t = admitted h a in tests_ready t.0 t.1

-- a call other than FRESH finds the tables ready, or is refused
pub ready_or_refused : (h : Heap) (call : Call) → is_fresh call ≡ false → Ready h ⊎ ((n : ℕ) × (step h call ≡ refuse h (suc n)))
ready_or_refused h call f = go (admission h) refl
  where
    go : (n : ℕ) → admission h ≡ n → Ready h ⊎ ((n : ℕ) × (step h call ≡ refuse h (suc n)))
    go zero e = inl (ready h e)
    go (suc n) e = inr (n, step_refused h call (suc n) (sym e ∙ not_admitted h call f (λ z. omega (arith, e, z))) (λ z. omega arith))

-- on a heap that fits and is sound, the call's own conditions decide
pub ready_refused : (h : Heap) (call : Call) → Ready h → is_fresh call ≡ false → refusal h call ≡ refusal_sound h call
unfolding refusal refusal_sound lowest
ready_refused h call r n = let t = ready_tests r in rw (t.0, n, t.1) refl

-- ---- FRESH

pub refusal_fresh : (h : Heap) → Sized h → refusal h FRESH ≡ 0
unfolding refusal lowest is_fresh conditions
refusal_fresh h z = rw (sized_fits h z) refl

pub step_fresh : (h : Heap) → Sized h → step h FRESH ≡ done (fresh (cells h)) 0
unfolding act
step_fresh h z = step_done h FRESH (refusal_fresh h z)

-- every entry of every table set to 0
pub fresh_is : (h : Heap) → Sized h
    → tables (replicate (length h.kind) 0) (replicate (length h.flags) 0) (replicate (length h.count) 0) (replicate (length h.slots) 0)
    (replicate (length h.roots) 0) (replicate (length h.queue) 0) (replicate (length h.control) 0)
    ≡ (act h FRESH).heap
unfolding act done fresh
fresh_is h z = rw (z.flags, z.count, z.slots, z.roots, z.queue, z.control) refl

pub fresh_answer : (h : Heap) → answers 0 0 0 0 ≡ (act h FRESH).answer
unfolding act done
fresh_answer h = refl

-- a fresh heap fits and is sound
pub fresh_ready : (n : ℕ) → 1 ≤ n → n ≤ 1024 → Ready (fresh n)
unfolding fresh
fresh_ready n l m =
    let long = length-replicate {A = ℕ} n 0 in
    record {
      sized = record {
        least = omega arith;
        most = omega arith;
        flags = refl;
        count = refl;
        slots = omega (arith, length-replicate {A = ℕ} (8 * n) 0);
        roots = refl;
        queue = refl;
        control = refl;
      };
      sound = record {
        rule1 = λ c d. (omega (arith, get_or-zeros n c), λ e. (get_or-zeros n c, get_or-zeros n c, λ j k. get_or-zeros (8 * n) (8 * c + j)));
        rule2 = λ c d. (⊎_elim (λ e. absurd (omega (arith, get_or-zeros n c))) (λ e. absurd (omega (arith, get_or-zeros n c))), λ e. inl (get_or-zeros n c));
        rule3 = (λ i d. inl (get_or-zeros 64 i), λ c j d k. inl (get_or-zeros (8 * n) (8 * c + j)), λ i d. inl (get_or-zeros n i));
        rule4 = (omega arith, λ i j o d e. omega arith, λ i d. absurd (omega arith), λ i d e. get_or-zeros n i);
        rule5 = inl refl;
        rule6 = λ c u. absurd (omega (arith, get_or-zeros n c));
      };
    }
