-- A full take-off in the code follows `release` of the rules: one `decref`, then `drain`; with a list in a lent table, or in room of its own.
-- Assumes nothing.
use mathlib.Core.Path.{◌≡◌, refl, sym, ap, ◌∙◌, subst, subst⁻¹}
use mathlib.Core.List.{List, [], ◌++◌, ◌∷◌, map, append-nil}
use mathlib.Core.Bool.{Bool, true}
use Prim.Native.Nat.{ℕ, suc, ◌+◌, ◌≤◌, ◌<◌}
use native.Mathlib.Omega.{arith}
use lib.ListN.{length, take, replicate, length-append, length-replicate}
use lib.Seq.{length-take-le}
use Rattle.rules.specs.Heap.{Heap, cells}
use Rattle.rules.specs.Release.{Work, start, decref, drain, release}
use Rattle.laws.specs.Sound.But.{Fit}
use Rattle.laws.specs.Release.Balance.{Draining}
use Rattle.laws.specs.Release.Decref.{beside_balanced}
use Rattle.laws.specs.Release.Advance.{decref_frame}
use Rattle.laws.specs.Release.Onto.{onto}
use Rattle.laws.specs.Release.Beside.{beside, drain_beside}
use Rattle.laws.specs.Release.Serve.{work_list, release_due, decref_draining, Drained, drain_empty, release_drained, forget_draining}
use Rattle.release.specs.Release.{Releasable, WorkListed, WorkCounted, WorkDone}
use Rattle.release.specs.Steps.{working, OthersStay, Named, SharedOff, ToComeOff, CameOff, Drainable}
use Rattle.release.proofs.Due.{due_named}
use Rattle.release.proofs.Step.{counting, shared_is}
use Rattle.release.proofs.Serving.{drain_roots}
use Rattle.release.proofs.Listing.{listed-length, front_stays}

module _ {h : Heap} {from r : ℕ} (d : Releasable h from r) where
  -- the tables' lengths
  pub fit_of : Fit h.kind h.flags h.count h.queue h.control
  unfolding start
  fit_of = d.draining.balanced.fit

  drained : Drained (start h) (release (start h) r) d.done d.outside
  drained = release_drained (start h) r d.done d.outside d.draining

  -- a take-off leaves as many cells, and a queue's length and running root
  pub size_left : cells (release (start h) r).heap ≡ cells h
  unfolding start
  size_left = drained.advance.size

  pub control_left : length (release (start h) r).heap.control ≡ 2
  control_left = drained.draining.balanced.fit.control_size

  from_few : from ≤ cells h
  unfolding start
  from_few = omega (arith, d.place, work_list _ _ _ _ d.draining.balanced)

  -- the cells that are freed before and now are distinct
  pub all_few : from + length (release (start h) r).freed ≤ cells h
  unfolding start
  all_few = omega (
    arith,
    d.place,
    work_list _ _ _ _ drained.draining.balanced,
    length-append d.done drained.cells,
    drained.advance.size,
    ap length drained.advance.freed,
  )

  -- the same for a list of its own, where what the call has freed before is not listed
  pub forgotten : Releasable h 0 r
  forgotten = record { outside = d.outside; done = []; place = refl; draining = forget_draining d.draining }

  -- the reference is due, and nothing waits behind the cells that were freed before
  pub first_due : (w : List ℕ) → cells h ≤ length w → ToComeOff h w from (r ∷ [])
  unfolding start
  first_due w room = record {
    serving = [];
    done = d.done;
    pending = [];
    held = h.slots ++ d.outside;
    room = room;
    listed = omega (arith, d.place);
    balanced = release_due _ r d.done d.outside d.draining;
  }

  -- the reference is empty or names a cell
  pub named : Named h.count r
  named = due_named (first_due (replicate 1024 0) (omega (arith, fit_of.small, length-replicate {A = ℕ} 1024 0)))

  -- others share the cell: that is all
  pub at_once : {n : List ℕ} {off : Bool} → SharedOff h.count r n off → off ≡ true → release (start h) r ≡ working (counting h n) []
  unfolding release start
  at_once {n} s came = ap (drain (cells h)) (shared_is h s came) ∙ drain_empty (cells h) (working (counting h n) []) refl

  module _ {w : List ℕ} {h' : Heap} {w' : List ℕ} {x : ℕ} (e : CameOff (decref (working h []) r) h' w from w' x) (others : OthersStay h h') where
    -- the cells that the first step queued, and those that wait after it
    joined : List ℕ
    joined = (decref (working h []) r).queued

    waiting : List ℕ
    waiting = (decref (working h []) r).pending

    -- the rules' state after the first step is the code's
    first_is : decref (working h []) r ≡ beside h'.roots [] joined (working h' waiting)
    unfolding onto beside joined waiting
    first_is = λ i. record {
      heap = sym e.heap i;
      pending = waiting;
      freed = (decref_frame (working h []) r).freed i;
      queued = sym (append-nil joined) i;
    }

    size : cells h' ≡ cells h
    size = ap length others.0

    release_is : release (start h) r ≡ beside h'.roots [] joined (drain (cells h') (working h' waiting))
    unfolding release start
    release_is =
        ap (drain (cells h)) first_is ∙ drain_beside h'.roots [] joined (cells h) (working h' waiting)
        ∙ ap (λ (m : ℕ). beside h'.roots [] joined (drain m (working h' waiting))) (sym size)

    module _ (room : cells h ≤ length w) (same : length w' ≡ length w) where
      -- the entries of the cells that were freed before stay
      still : take from w' ≡ take from w
      unfolding waiting
      still =
          let l : length (take from w) ≡ from = length-take-le from w (omega (arith, from_few)) in
          ap (λ (i : ℕ). take i w') (sym l) ∙ front_stays w' (take from w) waiting x (omega (arith, e.bound, same)) e.listed

      -- behind them the cells that wait are named
      waits : take x w' ≡ take from w' ++ map suc waiting
      unfolding waiting
      waits = e.listed ∙ ap (λ (l : List ℕ). l ++ map suc waiting) (sym still)

      -- all of the list, up to its end, is to be served
      pub drainable : Drainable h' w' from x
      unfolding beside onto start
      drainable =
          let a : Draining (beside h'.roots [] joined (working h' waiting)) d.done d.outside =
          subst (λ (v : Work). Draining v d.done d.outside) first_is (decref_draining _ r d.done d.outside d.draining) in
          record {
            outside = d.outside;
            done = d.done;
            pending = waiting;
            room = omega (arith, room, same, size);
            place = d.place;
            bound = omega (arith, e.bound, same);
            listed = waits;
            draining = record { slots = a.slots; plain_slots = a.plain_slots; balanced = beside_balanced _ _ _ _ h'.slots h'.roots [] [] a.balanced };
          }

      -- what serving the cells that wait leaves is what the take-off leaves
      pub then_drain : {h'' : Heap} {w'' : List ℕ} {end : ℕ}
          → ((pending : List ℕ) → take x w' ≡ take from w' ++ map suc pending → WorkListed (drain (cells h') (working h' pending)) h'' w' from w'' end)
          → WorkListed (release (start h) r) h'' w from w'' end
      unfolding beside onto
      then_drain {h''} {w''} {end} g =
          let v : Work = drain (cells h') (working h' waiting) in
          let l : WorkListed v h'' w' from w'' end = g waiting waits in
          subst⁻¹ (λ (u : Work). WorkListed u h'' w from w'' end) release_is
          (record {
            heap = l.heap ∙ sym (drain_roots (cells h') h' waiting);
            listed = l.listed ∙ ap (λ (k : List ℕ). k ++ map suc v.freed) still;
            few = l.few;
          })

-- ---- nothing was freed

module _ {v : Work} {h : Heap} (is : v ≡ working h []) where
  pub counted_none : WorkCounted v h 0
  counted_none = subst⁻¹ (λ (w : Work). WorkCounted w h 0) is (record { heap = refl; freed = refl })

  pub done_none : {l : List ℕ} → WorkDone v h l 0 l 0
  done_none {l} = subst⁻¹ (λ (w : Work). WorkDone w h l 0 l 0) is (record { heap = refl; many = refl; few = omega arith; listed = λ room. refl })

-- ---- with a list or without

module _ {v : Work} {h : Heap} {before after : List ℕ} {from end : ℕ} (fits : from ≤ length before) (room : cells h ≤ length after)
    (l : WorkListed v h before from after end) where
  -- how many cells a list names
  pub listed_many : end ≡ from + length v.freed
  listed_many = omega (arith, listed-length after (take from before) v.freed end (omega (arith, l.few)) l.listed, length-take-le from before fits)

  pub with_list : WorkDone v h before from after end
  with_list = record { heap = l.heap; many = listed_many; few = l.few; listed = λ r. l.listed }

-- the list made in room of its own is counted
pub counted : {v : Work} {h : Heap} {room after : List ℕ} {end : ℕ} → cells h ≤ length after → WorkListed v h room 0 after end → WorkCounted v h end
counted {room = room} fits l = record { heap = l.heap; freed = omega (arith, listed_many {before = room} (omega arith) fits l) }

-- no room, and no list
pub without_list : {v : Work} {h : Heap} {before : List ℕ} {from d : ℕ} → WorkCounted v h d → from + d ≤ cells h
    → length before < cells h → WorkDone v h before from before (from + d)
without_list c few none = record { heap = c.heap; many = omega (arith, c.freed); few = few; listed = λ room. absurd (omega arith) }
