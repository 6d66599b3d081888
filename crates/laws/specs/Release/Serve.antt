-- Serving the work list: one cell, the whole list, and a full take-off.
-- Assumes nothing.
use Prim.Native.Nat.{ℕ, zero, suc, ◌+◌, ◌*◌, ◌≤◌, ◌<◌}
use native.Mathlib.Omega.{arith}
use mathlib.Core.List.{List, [], ◌∷◌, ◌++◌, append_assoc, append-nil}
use Rattle.std.specs.Prelude.{◌≢◌, ◌≡◌, refl, set}
use Rattle.std.proofs.Common.{sym, ◌∙◌, subst, length-append, get_or-set_other}
use Rattle.std.proofs.Math.Path.{ap, subst⁻¹}
use Rattle.std.proofs.Math.ListN.{length, get_or, length-set}
use Rattle.laws.specs.Sound.But.{refit, PlainSlots}
use Rattle.laws.specs.Freeing.{wiped_length, wipe_plain, plain_kept}
use Rattle.rules.specs.Lists.{occ}
use Rattle.rules.specs.Heap.{Heap, kind_of, count_of, slots_of, emptied, wipe}
use Rattle.rules.specs.Release.{Work, decref, decrefs, with_pending, retire, serve, drain, release}
use Rattle.laws.specs.Lists.Tables.{by_cell, inside, set_here, set_same}
use Rattle.laws.specs.Lists.Occ.{occ_three, occ_nil, occ_here, occ-append, occ_cons, occ-length, occ_empty, occ_snoc_there, occ_one, occ_other, occ_cleared}
use Rattle.laws.specs.Lists.Pigeonhole.{pigeonhole}
use Rattle.laws.specs.Release.Balance.{Balanced, Draining, Advance}
use Rattle.laws.specs.Release.Decref.{reheld, listed_below, decref_balanced, decrefs_balanced}
use Rattle.laws.specs.Release.Advance.{Frame, Advanced, decref_frame, decrefs_frame, decref_advance, decrefs_advance, pending_advance, idle_advance, retire_advance, advance_trans}

-- the oldest waiting cell's turn comes
begin : (w : Work) (done held : List ℕ) (c : ℕ) (rest : List ℕ) → w.pending ≡ c ∷ rest
    → Balanced w [] done held → Balanced (with_pending w rest) (c ∷ []) done held
unfolding with_pending
begin w done held c rest e b =
    let same : (d : ℕ) → occ d [] + occ d w.pending ≡ occ d (c ∷ []) + occ d rest =
    λ d. omega (arith, occ_nil d, ap (occ d) e, occ_cons d c rest) in
    record {
      fit = b.fit;
      queue = b.queue;
      free = b.free;
      balance = b.balance;
      waits = λ d u z. omega (arith, same d, b.waits d u z);
      used = λ d o. b.used d (omega (arith, same d));
      dead = λ d o. b.dead d (omega (arith, same d));
      gone = b.gone;
      listed = b.listed;
      distinct = λ d. omega (arith, same d, b.distinct d);
    }

-- the cell that was served is freed
finish : (w : Work) (done held : List ℕ) (c : ℕ) → Balanced w (c ∷ []) done held → Balanced (retire w c) [] (done ++ (c ∷ [])) held
unfolding retire wipe
finish w done held c b =
    let k : List ℕ = w.heap.kind in
    let f : List ℕ = w.heap.flags in
    let n : List ℕ = w.heap.count in
    let this : occ c (c ∷ []) ≡ 1 = occ_one c c refl in
    let zero-count : count_of w.heap c ≡ 0 = b.dead c (omega arith) in
    let count : (d : ℕ) → get_or (set n c 0) d 0 ≡ count_of w.heap d = set_same n c 0 zero-count in
    let kind : (d : ℕ) → d ≢ c → get_or (set k c 0) d 0 ≡ get_or k d 0 = λ d m. get_or-set_other k c d 0 0 m in
    record {
      fit = refit (length-set k c 0) (length-set f c 0) (length-set n c 0) refl refl b.fit;
      queue = record {
        within = omega (arith, length-set k c 0);
        once = b.queue.once;
        none_empty = b.queue.none_empty;
        object = by_cell c (λ o. omega (arith, b.balance c)) (λ d m o. kind d m ∙ b.queue.object d o);
        wanting = by_cell c (λ o. omega (arith, b.balance c)) (λ d m o. get_or-set_other f c d 0 0 m ∙ b.queue.wanting d o);
        rest = b.queue.rest;
      };
      free = by_cell c (λ z. count c ∙ zero-count) (λ d m z. count d ∙ b.free d (sym (kind d m) ∙ z));
      balance = λ d. count d ∙ b.balance d;
      waits = by_cell c (λ u z. omega (arith, set_here k c))
          (λ d m u z. omega (arith, occ_other d c m, b.waits d (omega (arith, kind d m)) (sym (count d) ∙ z)));
      used = by_cell c (λ o. omega (arith, occ_nil c, b.distinct c))
          (λ d m o. omega (arith, kind d m, b.used d (omega (arith, occ_nil d))));
      dead = λ d o. count d ∙ b.dead d (omega (arith, occ_nil d));
      gone = by_cell c (λ o. set_here k c) (λ d m o. kind d m ∙ b.gone d (omega (arith, occ_snoc_there d c done m)));
      listed = by_cell c (λ o. omega (arith, length-set k c 0, inside k c (b.used c (omega arith))))
          (λ d m o. omega (arith, length-set k c 0, b.listed d (omega (arith, occ_snoc_there d c done m))));
      distinct = λ d. omega (arith, b.distinct d, occ-append d done (c ∷ []), occ_nil d);
    }

-- no more cells are listed than there are
pub work_list : (w : Work) (serving done held : List ℕ) → Balanced w serving done held
    → length done + length (serving ++ w.pending) ≤ length w.heap.kind
work_list w serving done held b =
    let l : List ℕ = done ++ (serving ++ w.pending) in
    omega (
      arith,
      length-append done (serving ++ w.pending),
      pigeonhole (length w.heap.kind) l
          (λ c. omega (arith, b.distinct c, occ_three c done serving w.pending))
          (listed_below w serving done held b),
    )

-- ---- one cell

-- cell c with its slots come off, before it is freed
abbrev pub served : Work → ℕ → List ℕ → Work
served w c rest = decrefs (with_pending w rest) (slots_of w.heap.slots c)

served_frame : (w : Work) (c : ℕ) (rest : List ℕ) → Frame w (served w c rest)
unfolding with_pending
served_frame w c rest =
    let f : Frame (with_pending w rest) (served w c rest) = decrefs_frame (with_pending w rest) (slots_of w.heap.slots c) in
    record { kind = f.kind; flags = f.flags; slots = f.slots; roots = f.roots; freed = f.freed }

-- the references of the cell that is served are held twice until it is all zeros: once by its slots, and once as due
module _ (w : Work) (done outside : List ℕ) (c : ℕ) (rest : List ℕ) (e : w.pending ≡ c ∷ rest) (d : Draining w done outside) where
  pub serve_used : 1 ≤ kind_of w.heap c
  serve_used = d.balanced.used c (omega (arith, ap (occ c) e, occ_here c rest))

  pub serve_range : c < length w.heap.kind
  serve_range = inside w.heap.kind c serve_used

  pub serve_slots : 8 * c + 8 ≤ length w.heap.slots
  serve_slots = omega (arith, serve_range)

  -- when its turn comes, its references are due
  pub serve_begin : Balanced (with_pending w rest) (c ∷ []) done (slots_of w.heap.slots c ++ (emptied w.heap.slots c ++ outside))
  unfolding slots_of
  serve_begin =
      let s : List ℕ = w.heap.slots in
      reheld (with_pending w rest) (c ∷ []) done (s ++ outside) (slots_of s c ++ (emptied s c ++ outside))
      (λ x. omega (
        arith,
        occ-append (suc x) s outside,
        occ_three (suc x) (slots_of s c) (emptied s c) outside,
        occ_cleared 8 s (8 * c) x serve_slots,
      ))
      (begin w done (s ++ outside) c rest e d.balanced)

  served_plain : PlainSlots (served w c rest).heap.kind (served w c rest).heap.slots
  served_plain = let f : Frame w (served w c rest) = served_frame w c rest in rw (f.kind, f.slots) d.plain_slots

  served_balanced : Balanced (served w c rest) (c ∷ []) done (emptied w.heap.slots c ++ outside)
  served_balanced = decrefs_balanced (with_pending w rest) (c ∷ []) done (slots_of w.heap.slots c) (emptied w.heap.slots c ++ outside) serve_begin

  -- its own count is 0 when it is freed
  pub served_count : count_of (served w c rest).heap c ≡ 0
  served_count = served_balanced.dead c (omega (arith, occ_here c []))

  -- the cell is all zeros, and the next one's turn comes
  pub serve_draining : Draining (serve w c rest) (done ++ (c ∷ [])) outside
  unfolding serve retire wipe
  serve_draining =
      let v : Work = served w c rest in
      let f : Frame w v = served_frame w c rest in
      record {
        slots = omega (arith, wiped_length (kind_of v.heap c) v.heap.slots c, length-set v.heap.kind c 0, ap length f.slots, ap length f.kind);
        plain_slots = plain_kept v.heap c served_plain;
        balanced =
            subst⁻¹ (λ (h : Heap). Balanced (retire v c) [] (done ++ (c ∷ [])) (h.slots ++ outside)) (wipe_plain v.heap c served_plain)
            (finish v done (emptied v.heap.slots c ++ outside) c
            (subst⁻¹ (λ (l : List ℕ). Balanced v (c ∷ []) done (emptied l c ++ outside)) f.slots served_balanced));
      }

  pub serve_advance : Advanced w (serve w c rest) (c ∷ [])
  unfolding serve
  serve_advance =
      let f : Frame w (served w c rest) = served_frame w c rest in
      let q : Advanced (with_pending w rest) (served w c rest) [] =
      decrefs_advance (with_pending w rest) (c ∷ []) done (slots_of w.heap.slots c) (emptied w.heap.slots c ++ outside) serve_begin in
      let r : Advance (served w c rest) (serve w c rest) (c ∷ []) [] =
      retire_advance (served w c rest) c served_plain (omega (arith, ap (λ (l : List ℕ). get_or l c 0) f.kind, serve_used)) in (
        q.0 ++ [],
        advance_trans w (with_pending w rest) (serve w c rest) [] (c ∷ []) [] (q.0 ++ []) (pending_advance w rest)
            (advance_trans (with_pending w rest) (served w c rest) (serve w c rest) [] (c ∷ []) q.0 [] q.1 r),
      )

-- ---- the whole work list

-- the clauses of `drain`
pub drain_empty : (fuel : ℕ) (w : Work) → w.pending ≡ [] → drain fuel w ≡ w
unfolding drain
drain_empty zero w e = refl
drain_empty (suc fuel) w e = rw e

pub drain_step : (fuel : ℕ) (w : Work) (c : ℕ) (rest : List ℕ) → w.pending ≡ c ∷ rest → drain (suc fuel) w ≡ drain fuel (serve w c rest)
unfolding drain
drain_step fuel w c rest e = rw e

-- the work list is empty, with exactly `cells` freed
pub record Drained (w v : Work) (done outside : List ℕ) : Type 0 where
  pub cells : List ℕ
  pub joined : List ℕ
  pub draining : Draining v (done ++ cells) outside
  pub empty : v.pending ≡ []
  pub advance : Advance w v cells joined

drained_now : (fuel : ℕ) (w : Work) (done outside : List ℕ) → Draining w done outside → w.pending ≡ [] → Drained w (drain fuel w) done outside
drained_now fuel w done outside d e =
    subst⁻¹ (λ (v : Work). Drained w v done outside) (drain_empty fuel w e)
    (record { cells = []; joined = []; draining = subst⁻¹ (λ (l : List ℕ). Draining w l outside) (append-nil done) d; empty = e; advance = idle_advance w })

drained_step : (fuel : ℕ) (w : Work) (done outside : List ℕ) → Draining w done outside → length w.heap.kind ≤ suc fuel + length done
    → ((v : Work) (done' : List ℕ) → Draining v done' outside → length v.heap.kind ≤ fuel + length done' → Drained v (drain fuel v) done' outside)
    → (p : List ℕ) → w.pending ≡ p → Drained w (drain (suc fuel) w) done outside
drained_step fuel w done outside d enough again [] e = drained_now (suc fuel) w done outside d e
drained_step fuel w done outside d enough again (c ∷ rest) e =
    let s : Work = serve w c rest in
    let a : Advanced w s (c ∷ []) = serve_advance w done outside c rest e d in
    let r : Drained s (drain fuel s) (done ++ (c ∷ [])) outside =
    again s (done ++ (c ∷ [])) (serve_draining w done outside c rest e d) (omega (arith, length-append done (c ∷ []))) in
    subst⁻¹ (λ (v : Work). Drained w v done outside) (drain_step fuel w c rest e)
    (record {
      cells = c ∷ r.cells;
      joined = a.0 ++ r.joined;
      draining = subst (λ (l : List ℕ). Draining (drain fuel s) l outside) (append_assoc done (c ∷ []) r.cells) r.draining;
      empty = r.empty;
      advance = advance_trans w s (drain fuel s) (c ∷ []) r.cells a.0 r.joined a.1 r.advance;
    })

-- with fuel for every cell the work list is served to its end
pub drain_drained : (fuel : ℕ) (w : Work) (done outside : List ℕ) → Draining w done outside → length w.heap.kind ≤ fuel + length done
    → Drained w (drain fuel w) done outside
drain_drained zero w done outside d enough =
    drained_now zero w done outside d (occ_empty w.pending (λ c. omega (arith, occ-length c w.pending, work_list w [] done (w.heap.slots ++ outside) d.balanced)))
drain_drained (suc fuel) w done outside d enough = drained_step fuel w done outside d enough (λ v done'. drain_drained fuel v done' outside) w.pending refl

-- ---- a full take-off

-- nothing waits: every used cell's count is its references, and at least 1
pub record Settled (w : Work) (outside : List ℕ) : Type 0 where
  pub draining : Draining w [] outside
  pub empty : w.pending ≡ []

-- from w to v a reference that stood nowhere in the tables came off
pub record Released (w v : Work) (outside : List ℕ) : Type 0 where
  pub cells : List ℕ
  pub joined : List ℕ
  pub settled : Settled v outside
  pub advance : Advance w v cells joined

-- what was freed need not be remembered
forget : (w : Work) (done held : List ℕ) → Balanced w [] done held → Balanced w [] [] held
forget w done held b = record {
  fit = b.fit;
  queue = b.queue;
  free = b.free;
  balance = b.balance;
  waits = b.waits;
  used = b.used;
  dead = b.dead;
  gone = λ c o. omega (arith, occ_nil c);
  listed = λ c o. omega (arith, occ_nil c);
  distinct = λ c. omega (arith, occ_nil c, b.distinct c);
}

pub forget_draining : {w : Work} {done outside : List ℕ} → Draining w done outside → Draining w [] outside
forget_draining {w} {done} d = record { slots = d.slots; plain_slots = d.plain_slots; balanced = forget w done _ d.balanced }

-- the reference that is to come off is due; `done` are the cells that earlier take-offs of the same call have freed
pub release_due : (w : Work) (r : ℕ) (done outside : List ℕ) → Draining w done (r ∷ outside) → Balanced w [] done (r ∷ (w.heap.slots ++ outside))
release_due w r done outside d =
    let s : List ℕ = w.heap.slots in
    reheld w [] done (s ++ (r ∷ outside)) (r ∷ (s ++ outside))
    (λ c. omega (arith, occ-append (suc c) s (r ∷ outside), occ_cons (suc c) r (s ++ outside), occ-append (suc c) s outside, occ_cons (suc c) r outside))
    d.balanced

pub decref_draining : (w : Work) (r : ℕ) (done outside : List ℕ) → Draining w done (r ∷ outside) → Draining (decref w r) done outside
decref_draining w r done outside d =
    let f : Frame w (decref w r) = decref_frame w r in
    record {
      slots = omega (arith, ap length f.slots, ap length f.kind);
      plain_slots = rw (f.kind, f.slots) d.plain_slots;
      balanced = subst⁻¹ (λ (l : List ℕ). Balanced (decref w r) [] done (l ++ outside)) f.slots
          (decref_balanced w [] done r (w.heap.slots ++ outside) (release_due w r done outside d));
    }

-- a full take-off; the cells that it frees come behind those freed before
pub release_drained : (w : Work) (r : ℕ) (done outside : List ℕ) → Draining w done (r ∷ outside) → Drained w (release w r) done outside
unfolding release
release_drained w r done outside d =
    let a : Advanced w (decref w r) [] = decref_advance w [] done r (w.heap.slots ++ outside) (release_due w r done outside d) in
    let q : Drained (decref w r) (release w r) done outside =
    drain_drained (length w.heap.kind) (decref w r) done outside (decref_draining w r done outside d) (omega (arith, ap length (decref_frame w r).kind)) in
    record {
      cells = q.cells;
      joined = a.0 ++ q.joined;
      draining = q.draining;
      empty = q.empty;
      advance = advance_trans w (decref w r) (release w r) [] q.cells a.0 q.joined a.1 q.advance;
    }

pub release_released : (w : Work) (r : ℕ) (outside : List ℕ) → Settled w (r ∷ outside) → Released w (release w r) outside
release_released w r outside s =
    let q : Drained w (release w r) [] outside = release_drained w r [] outside s.draining in
    record {
      cells = q.cells;
      joined = q.joined;
      settled = record { draining = forget_draining q.draining; empty = q.empty };
      advance = q.advance;
    }
