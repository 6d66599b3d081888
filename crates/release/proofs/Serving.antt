-- The loop over the work list follows `drain` of the rules.
-- Assumes nothing.
use mathlib.Core.Path.{◌≡◌, refl, sym, ap, ◌∙◌, subst}
use mathlib.Core.List.{List, [], ◌∷◌, ◌++◌, map, append_assoc, append-nil}
use Prim.Native.Nat.{ℕ, suc, ◌+◌, ◌-◌, ◌≤◌, ◌<◌}
use native.Mathlib.Omega.{arith}
use lib.ListN.{length, get_or, take, length-append, length-map, length-set}
use lib.Seq.{length-take-le}
use Rattle.rules.specs.Heap.{Heap, cells, slots_of, emptied, wipe}
use Rattle.rules.specs.Release.{Work, decrefs, with_pending, retire, serve, drain}
use Rattle.laws.specs.Lists.Occ.{occ_empty, occ-length}
use Rattle.laws.specs.Sound.But.{Fit}
use Rattle.laws.specs.Release.Balance.{Balanced, Draining}
use Rattle.laws.specs.Release.Decref.{beside_balanced, decrefs_balanced}
use Rattle.laws.specs.Release.Advance.{decrefs_frame}
use Rattle.laws.specs.Release.Onto.{onto}
use Rattle.laws.specs.Release.Beside.{beside, drain_beside}
use Rattle.laws.specs.Release.Serve.{work_list, served, serve_range, serve_slots, serve_begin, serve_draining, drain_empty, drain_step}
use Rattle.freeing.specs.Freeing.{CellInTables}
use Rattle.release.specs.Release.{WorkListed}
use Rattle.release.specs.Steps.{working, OthersStay, SlotsToComeOff, CameOff, Drainable}
use Rattle.release.proofs.Listing.{Oldest, oldest, same_cells, joins, listed-length}
use Rattle.release.proofs.Step.{behind, decrefs_behind}

-- draining writes no root, so that they need not be put back
pub drain_roots : (m : ℕ) (h : Heap) (p : List ℕ) → (beside h.roots [] [] (drain m (working h p))).heap ≡ (drain m (working h p)).heap
unfolding beside onto
drain_roots m h p = sym (ap (λ (w : Work). w.heap) (drain_beside h.roots [] [] m (working h p)))

-- goal's tables are v's, and goal has freed the cells `gone` before those of v
pub record Reaches (goal v : Work) (gone : List ℕ) : Type 0 where
  pub heap : goal.heap ≡ v.heap
  pub freed : goal.freed ≡ gone ++ v.freed

-- The loop at `head`: behind the first `from` entries the table names the cells `gone`, which this loop has freed, and from `head` to x those that
-- wait. `done` are the cells that the call has freed, with those. What is left to do leads to the goal, which is what the list that the loop
-- began with leads to.
pub record Serving (h₀ : Heap) (w₀ : List ℕ) (from tail : ℕ) (h : Heap) (w : List ℕ) (x head : ℕ) : Type 0 where
  pub size_kept : cells h ≡ cells h₀
  pub roots_kept : h.roots ≡ h₀.roots
  pub room : cells h ≤ length w
  pub bound : x ≤ length w
  pub outside : List ℕ
  pub first : List ℕ
  pub done : List ℕ
  pub gone : List ℕ
  pub pending : List ℕ
  pub begun : take tail w₀ ≡ take from w₀ ++ map suc first
  pub ahead : length (take from w₀) ≡ from
  pub listed : take x w ≡ take from w₀ ++ map suc (gone ++ pending)
  pub place : head ≡ length done
  pub counted : head ≡ from + length gone
  pub draining : Draining (working h pending) done outside
  pub reaches : Reaches (drain (cells h₀) (working h₀ first)) (drain (cells h₀ - length gone) (working h pending)) gone

pub serve_start : {h : Heap} {w : List ℕ} {from tail : ℕ} → Drainable h w from tail → Serving h w from tail h w tail from
serve_start {h} {w} {from} d =
    let fuel : cells h - 0 ≡ cells h = omega arith in
    record {
      size_kept = refl;
      roots_kept = refl;
      room = d.room;
      bound = d.bound;
      outside = d.outside;
      first = d.pending;
      done = d.done;
      gone = [];
      pending = d.pending;
      begun = d.listed;
      ahead = length-take-le from w (omega (arith, d.room, d.place, work_list _ _ _ _ d.draining.balanced));
      listed = d.listed;
      place = d.place;
      counted = omega arith;
      draining = d.draining;
      reaches = rw fuel (record { heap = refl; freed = refl });
    }

module _ {h₀ : Heap} {w₀ : List ℕ} {from tail : ℕ} {h : Heap} {w : List ℕ} {x head : ℕ} (g : Serving h₀ w₀ from tail h w x head) where
  -- how many wait
  end_is : x ≡ head + length g.pending
  end_is = omega (
    arith,
    listed-length w (take from w₀) (g.gone ++ g.pending) x g.bound g.listed,
    length-append g.gone g.pending,
    g.ahead,
    g.counted,
  )

  -- no more cells are listed than there are
  end_fits : x ≤ cells h
  end_fits = omega (arith, end_is, g.place, work_list _ _ _ _ g.draining.balanced)

  pub end_small : x ≤ 1024
  end_small = omega (arith, end_fits, g.draining.balanced.fit.small)

  module _ (more : head < x) where
    front : Oldest (get_or w head 0) g.pending
    front =
        let here : head ≡ length (take from w₀ ++ map suc g.gone) =
        omega (arith, g.counted, g.ahead, length-append (take from w₀) (map suc g.gone), length-map g.gone suc) in
        oldest w (take from w₀ ++ map suc g.gone) g.pending x head g.bound (g.listed ∙ sym (joins (take from w₀) g.gone g.pending)) here more

    -- the entry at `head` names a cell
    pub some_named : 1 ≤ get_or w head 0
    some_named = front.some

    -- and that cell is in the tables
    pub in_range : get_or w head 0 - 1 < cells h
    in_range = serve_range _ _ _ _ _ front.is g.draining

    module _ {c : ℕ} (is : c ≡ get_or w head 0 - 1) where
      rest : List ℕ
      rest = front.rest

      next : g.pending ≡ c ∷ rest
      unfolding rest
      next = front.is ∙ ap (λ (d : ℕ). d ∷ front.rest) (sym is)

      stands : c < cells h
      stands = serve_range _ _ _ _ _ next g.draining

      -- the references in the cell's slots are due
      pub cell_due : SlotsToComeOff h w x c
      unfolding with_pending slots_of
      cell_due = record {
        stands = stands;
        inside = serve_slots _ _ _ _ _ next g.draining;
        plain_slots = g.draining.plain_slots;
        due = record {
          serving = c ∷ [];
          done = g.done;
          pending = rest;
          held = emptied h.slots c ++ g.outside;
          room = g.room;
          listed = omega (arith, end_is, g.place, ap length next);
          balanced = serve_begin _ _ _ _ _ next g.draining;
        };
      }

      left : cells h₀ - length g.gone ≡ suc (cells h₀ - length (g.gone ++ (c ∷ [])))
      left = omega (arith, end_fits, end_is, ap length next, g.counted, g.size_kept, length-append g.gone (c ∷ []))

      module _ {h' : Heap} {w' : List ℕ} {x' : ℕ} (e : CameOff (decrefs (working h []) (slots_of h.slots c)) h' w x w' x') where
        lowered : Work
        lowered = decrefs (working h []) (slots_of h.slots c)

        -- the rules' state with the slots come off
        served_is : served (working h g.pending) c rest ≡ behind rest [] lowered
        unfolding lowered with_pending slots_of
        served_is =
            ap (λ (p : List ℕ). decrefs (working h p) (slots_of h.slots c)) (sym (append-nil rest)) ∙ decrefs_behind rest [] (working h []) (slots_of h.slots c)

        -- and so are the code's tables
        fits : Fit h'.kind h'.flags h'.count h'.queue h'.control
        unfolding lowered
        fits =
            let b : Balanced (behind rest [] lowered) (c ∷ []) g.done (emptied h.slots c ++ g.outside) =
            subst (λ (v : Work). Balanced v (c ∷ []) g.done (emptied h.slots c ++ g.outside)) served_is
            (decrefs_balanced _ _ _ _ _ (serve_begin _ _ _ _ _ next g.draining)) in
            subst (λ (v : Heap). Fit v.kind v.flags v.count v.queue v.control) (sym e.heap) b.fit

        module _ (others : OthersStay h h') where
          size : cells h' ≡ cells h
          size = ap length others.0

          -- the cell stands in them
          pub cell_stands : CellInTables h' c
          cell_stands = record {
            kind = omega (arith, stands, size);
            flags = omega (arith, stands, size, fits.flags_size);
            count = omega (arith, stands, size, fits.count_size);
            slots = omega (arith, serve_slots _ _ _ _ _ next g.draining, ap length others.2);
          }

          module _ {h'' : Heap} (z : h'' ≡ wipe h' c) (kept : length w' ≡ length w) where
            freed_size : cells h'' ≡ cells h
            unfolding wipe
            freed_size = omega (arith, ap (λ (v : Heap). cells v) z, length-set h'.kind c 0, size)

            -- the cell is gone, and those that its slots added wait after the others
            next_listed : take x' w' ≡ take from w₀ ++ map suc ((g.gone ++ (c ∷ [])) ++ (rest ++ lowered.pending))
            unfolding lowered
            next_listed =
                let regroup : (g.gone ++ g.pending) ++ lowered.pending ≡ (g.gone ++ (c ∷ [])) ++ (rest ++ lowered.pending) =
                ap (λ (l : List ℕ). (g.gone ++ l) ++ lowered.pending) next
                ∙ append_assoc g.gone (c ∷ rest) lowered.pending ∙ sym (append_assoc g.gone (c ∷ []) (rest ++ lowered.pending)) in
                e.listed ∙ ap (λ (l : List ℕ). l ++ map suc lowered.pending) g.listed
                ∙ joins (take from w₀) (g.gone ++ g.pending) lowered.pending ∙ ap (λ (l : List ℕ). take from w₀ ++ map suc l) regroup

            -- the rules' state with the cell freed is the code's
            serve_is : serve (working h g.pending) c rest ≡ beside h''.roots (c ∷ []) lowered.queued (working h'' (rest ++ lowered.pending))
            unfolding lowered serve retire beside onto
            serve_is =
                let zeros : wipe lowered.heap c ≡ h'' = ap (λ (v : Heap). wipe v c) (sym e.heap) ∙ sym z in
                ap (λ (u : Work). retire u c) served_is
                ∙ (λ i. record {
                  heap = zeros i;
                  pending = rest ++ lowered.pending;
                  freed = (decrefs_frame (working h []) (slots_of h.slots c)).freed i ++ (c ∷ []);
                  queued = sym (append-nil lowered.queued) i;
                })

            -- how many turns are left after this one
            fuel : ℕ
            fuel = cells h₀ - length (g.gone ++ (c ∷ []))

            drain_is : drain (cells h₀ - length g.gone) (working h g.pending)
                ≡ beside h''.roots (c ∷ []) lowered.queued (drain fuel (working h'' (rest ++ lowered.pending)))
            unfolding fuel
            drain_is =
                ap (λ (m : ℕ). drain m (working h g.pending)) left
                ∙ drain_step fuel (working h g.pending) c rest next
                ∙ ap (drain fuel) serve_is
                ∙ drain_beside h''.roots (c ∷ []) lowered.queued fuel (working h'' (rest ++ lowered.pending))

            next_draining : Draining (working h'' (rest ++ lowered.pending)) (g.done ++ (c ∷ [])) g.outside
            unfolding beside onto
            next_draining =
                let d : Draining (beside h''.roots (c ∷ []) lowered.queued (working h'' (rest ++ lowered.pending))) (g.done ++ (c ∷ [])) g.outside =
                subst (λ (u : Work). Draining u (g.done ++ (c ∷ [])) g.outside) serve_is (serve_draining _ _ _ _ _ next g.draining) in
                record { slots = d.slots; plain_slots = d.plain_slots; balanced = beside_balanced _ _ _ _ h''.slots h''.roots [] [] d.balanced }

            pub serve_on : Serving h₀ w₀ from tail h'' w' x' (head + 1)
            unfolding beside onto fuel wipe
            serve_on =
                let goal : Work = drain (cells h₀) (working h₀ g.first) in
                let last : Work = drain fuel (working h'' (rest ++ lowered.pending)) in
                let r : Reaches goal (beside h''.roots (c ∷ []) lowered.queued last) g.gone = subst (λ (u : Work). Reaches goal u g.gone) drain_is g.reaches in
                record {
                  size_kept = freed_size ∙ g.size_kept;
                  roots_kept = ap (λ (v : Heap). v.roots) z ∙ others.3 ∙ g.roots_kept;
                  room = omega (arith, freed_size, kept, g.room);
                  bound = omega (arith, e.bound, kept);
                  outside = g.outside;
                  first = g.first;
                  done = g.done ++ (c ∷ []);
                  gone = g.gone ++ (c ∷ []);
                  pending = rest ++ lowered.pending;
                  begun = g.begun;
                  ahead = g.ahead;
                  listed = next_listed;
                  place = omega (arith, g.place, length-append g.done (c ∷ []));
                  counted = omega (arith, g.counted, length-append g.gone (c ∷ []));
                  draining = next_draining;
                  reaches = record {
                    heap = r.heap ∙ drain_roots fuel h'' (rest ++ lowered.pending);
                    freed = r.freed ∙ sym (append_assoc g.gone (c ∷ []) last.freed);
                  };
                }

  -- at the end nothing waits, the goal is reached, which is what the cells that the first entries name lead to, and the table names what it has freed
  pub serve_end : x ≤ head → (pending : List ℕ) → take tail w₀ ≡ take from w₀ ++ map suc pending
      → WorkListed (drain (cells h₀) (working h₀ pending)) h w₀ from w head
  serve_end over pending named =
      let none : g.pending ≡ [] = occ_empty g.pending (λ c. omega (arith, occ-length c g.pending, end_is)) in
      let goal : Work = drain (cells h₀) (working h₀ g.first) in
      let r : Reaches goal (working h g.pending) g.gone =
      subst (λ (u : Work). Reaches goal u g.gone) (drain_empty (cells h₀ - length g.gone) (working h g.pending) none) g.reaches in
      let all : g.gone ++ g.pending ≡ goal.freed = ap (λ (l : List ℕ). g.gone ++ l) none ∙ sym r.freed in
      let at : head ≡ x = omega (arith, end_is) in
      subst (λ (l : List ℕ). WorkListed (drain (cells h₀) (working h₀ l)) h w₀ from w head)
      (same_cells (take from w₀) g.first pending (sym g.begun ∙ named))
      (record {
        heap = sym r.heap;
        listed = ap (λ (i : ℕ). take i w) at ∙ g.listed ∙ ap (λ (l : List ℕ). take from w₀ ++ map suc l) all;
        few = omega (arith, end_fits, at);
      })
