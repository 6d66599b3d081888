-- A run of `decref`s in the code follows `decrefs` of the rules.
-- Assumes nothing.
use Prim.Native.Nat.{ℕ, suc, ◌+◌, ◌≤◌, ◌<◌}
use native.Mathlib.Omega.{arith}
use mathlib.Core.List.{List, [], ◌∷◌, ◌++◌, map, map-append, append_assoc, append-nil}
use mathlib.Core.Path.{◌≡◌, refl, sym, ap, ◌∙◌, subst, subst⁻¹}
use lib.ListN.{length, get_or, take, length-append, length-map, drop_of_length-le}
use lib.Seq.{length-take-le, slice, slice-cons}
use Rattle.rules.specs.Heap.{Heap}
use Rattle.rules.specs.Release.{Work, decref, decrefs}
use Rattle.laws.specs.Release.Balance.{Balanced}
use Rattle.laws.specs.Release.Decref.{decref_balanced, beside_balanced}
use Rattle.laws.specs.Release.Advance.{decref_frame}
use Rattle.release.specs.Steps.{working, OthersStay, ToComeOff, CameOff}
use Rattle.release.proofs.Due.{tail_fits}
use Rattle.release.proofs.Step.{behind, decref_behind, decrefs_behind}

-- What is still to do from v on, after the work list `listed`, ends where `goal` does after the work list `first`.
pub record Toward (goal : Work) (first : List ℕ) (v : Work) (listed : List ℕ) : Type 0 where
  pub heap : goal.heap ≡ v.heap
  pub pending : first ++ map suc goal.pending ≡ listed ++ map suc v.pending

toward_here : (v : Work) (l : List ℕ) → Toward v l v l
toward_here v l = record { heap = refl; pending = refl }

toward_trans : {a b c : Work} {i j k : List ℕ} → Toward a i b j → Toward b j c k → Toward a i c k
toward_trans p q = record { heap = p.heap ∙ q.heap; pending = p.pending ∙ q.pending }

module _ (h : Heap) (r : ℕ) {h' : Heap} {before : List ℕ} {tail : ℕ} {after : List ℕ} {next : ℕ}
    (e : CameOff (decref (working h []) r) h' before tail after next) where
  came : Work
  came = decref (working h []) r

  -- the rules' state after one step is the code's, with the new entries of the work list before it
  stepped : came ≡ behind came.pending came.queued (working h' [])
  unfolding came
  stepped = λ i. record {
    heap = sym e.heap i;
    pending = sym (append-nil came.pending) i;
    freed = (decref_frame (working h []) r).freed i;
    queued = sym (append-nil came.queued) i;
  }

  toward_step : (rem : List ℕ) → Toward (decrefs (working h []) (r ∷ rem)) (take tail before) (decrefs (working h' []) rem) (take next after)
  unfolding decrefs came
  toward_step rem =
      let u : Work = decrefs (working h' []) rem in
      let g : decrefs came rem ≡ behind came.pending came.queued u =
      ap (λ (w : Work). decrefs w rem) stepped ∙ decrefs_behind came.pending came.queued (working h' []) rem in
      record {
        heap = ap (λ (w : Work). w.heap) g;
        pending =
            ap (λ (w : Work). take tail before ++ map suc w.pending) g
            ∙ ap (λ (l : List ℕ). take tail before ++ l) (map-append suc came.pending u.pending)
            ∙ sym (append_assoc (take tail before) (map suc came.pending) (map suc u.pending))
            ∙ ap (λ (l : List ℕ). l ++ map suc u.pending) (sym e.listed);
      }

  -- the references that are still due
  due_step : (rem : List ℕ) → ToComeOff h before tail (r ∷ rem) → length after ≡ length before → ToComeOff h' after next rem
  unfolding came
  due_step rem d same =
      let g : decref (working h d.pending) r ≡ behind d.pending [] came =
      ap (λ (l : List ℕ). decref (working h l) r) (sym (append-nil d.pending)) ∙ decref_behind d.pending [] (working h []) r in
      let b : Balanced (behind d.pending [] came) d.serving d.done (rem ++ d.held) =
      subst (λ (x : Work). Balanced x d.serving d.done (rem ++ d.held)) g (decref_balanced (working h d.pending) d.serving d.done r (rem ++ d.held) d.balanced) in
      let grown : length (take next after) ≡ length (take tail before) + length (map suc came.pending) =
      ap length e.listed ∙ length-append (take tail before) (map suc came.pending) in
      let there : length (take next after) ≡ next = length-take-le next after (omega (arith, e.bound, same)) in
      let here : length (take tail before) ≡ tail = length-take-le tail before (tail_fits d) in
      let cells : length h'.kind ≡ length h.kind = ap (λ (g : Heap). length g.kind) e.heap ∙ ap length (decref_frame (working h []) r).kind in
      record {
        serving = d.serving;
        done = d.done;
        pending = d.pending ++ came.pending;
        held = d.held;
        room = omega (arith, same, cells, d.room);
        listed = omega (
          arith,
          d.listed,
          length-append d.serving d.pending,
          length-append d.serving (d.pending ++ came.pending),
          length-append d.pending came.pending,
          length-map came.pending suc,
        );
        balanced = subst (λ (x : Heap). Balanced (working x (d.pending ++ came.pending)) d.serving d.done (rem ++ d.held)) (sym e.heap)
            (beside_balanced _ _ _ _ came.heap.slots came.heap.roots [] [] b);
      }

-- The loop over a part of the slots, at index i: what is left of the part is due, and leads where the whole part does.
pub record Going (h₀ : Heap) (w₀ : List ℕ) (tail from end : ℕ) (h : Heap) (w : List ℕ) (t i : ℕ) : Type 0 where
  pub inside : end ≤ length h₀.slots
  pub others : OthersStay h₀ h
  pub due : ToComeOff h w t (slice i end h₀.slots)
  pub toward : Toward (decrefs (working h₀ []) (slice from end h₀.slots)) (take tail w₀) (decrefs (working h []) (slice i end h₀.slots)) (take t w)

pub go_start : {h : Heap} {w : List ℕ} {tail from end i : ℕ} → i ≡ from → end ≤ length h.slots → ToComeOff h w tail (slice from end h.slots)
    → Going h w tail from end h w tail i
go_start {h} {w} {tail} {from} {end} at e d =
    subst⁻¹ (Going h w tail from end h w tail) at (record { inside = e; others = (refl, refl, refl, refl); due = d; toward = toward_here _ _ })

module _ {h₀ : Heap} {w₀ : List ℕ} {tail from end : ℕ} {h : Heap} {w : List ℕ} {t i : ℕ} (g : Going h₀ w₀ tail from end h w t i) where
  module _ (more : i < end) where
    left : slice i end h₀.slots ≡ get_or h.slots i 0 ∷ slice (suc i) end h₀.slots
    left = slice-cons i end h₀.slots 0 more g.inside ∙ ap (λ (l : List ℕ). get_or l i 0 ∷ slice (suc i) end h₀.slots) (sym g.others.2)

    next_due : ToComeOff h w t (get_or h.slots i 0 ∷ slice (suc i) end h₀.slots)
    next_due = subst (ToComeOff h w t) left g.due

    -- the entry at i is due
    pub go_due : ToComeOff h w t (get_or h.slots i 0 ∷ [])
    go_due = record {
      serving = next_due.serving;
      done = next_due.done;
      pending = next_due.pending;
      held = slice (suc i) end h₀.slots ++ next_due.held;
      room = next_due.room;
      listed = next_due.listed;
      balanced = next_due.balanced;
    }

    pub go_on : {h' : Heap} {w' : List ℕ} {t' j : ℕ} → j ≡ suc i → CameOff (decref (working h []) (get_or h.slots i 0)) h' w t w' t' → OthersStay h h' → length w' ≡ length w
        → Going h₀ w₀ tail from end h' w' t' j
    go_on {h'} {w'} {t'} at e others kept = subst⁻¹ (Going h₀ w₀ tail from end h' w' t') at (record {
      inside = g.inside;
      others = (others.0 ∙ g.others.0, others.1 ∙ g.others.1, others.2 ∙ g.others.2, others.3 ∙ g.others.3);
      due = due_step h _ e (slice (suc i) end h₀.slots) next_due kept;
      toward = toward_trans
          (subst (λ (l : List ℕ). Toward (decrefs (working h₀ []) (slice from end h₀.slots)) (take tail w₀) (decrefs (working h []) l) (take t w)) left g.toward)
          (toward_step h _ e (slice (suc i) end h₀.slots));
    })

  -- at the end of the part
  pub go_end : length w ≡ length w₀ → end ≤ i → CameOff (decrefs (working h₀ []) (slice from end h₀.slots)) h w₀ tail w t
  unfolding decrefs
  go_end kept over =
      let none : slice i end h₀.slots ≡ [] = drop_of_length-le (take end h₀.slots) {i = i} (omega (arith, length-take-le end h₀.slots g.inside)) in
      let z : Toward (decrefs (working h₀ []) (slice from end h₀.slots)) (take tail w₀) (working h []) (take t w) =
      subst (λ (l : List ℕ). Toward (decrefs (working h₀ []) (slice from end h₀.slots)) (take tail w₀) (decrefs (working h []) l) (take t w)) none g.toward in
      record {
        heap = sym z.heap;
        listed = sym (z.pending ∙ append-nil (take t w));
        bound = omega (arith, tail_fits g.due, kept);
      }
