-- What a call that is done makes of a sound heap, whichever it is: a sound heap, slots as they stood, true lists of what was freed and queued, and of the
-- counts that its take-offs met, none of them zero.
-- Assumes nothing.
use Rattle.std.specs.Prelude.{ℕ, suc, ◌+◌, ◌*◌, ◌≤◌, List, [], ◌++◌, map, Bool, ◌&&◌, ◌≡◌, ◌≢◌, eqb, length, get_or, drop}
use Rattle.std.proofs.Common.{arith, append-nil, sym, ◌∙◌, ap}
use Rattle.std.proofs.Math.Decide.{dec_lt}
use Rattle.std.proofs.Math.Bool.{not}
use Rattle.std.proofs.Math.Logic.{by_cases}
use borrow.Author.Tests.{eqb-true, eqb-false, eq-eqb, ne_eqb, not-true}
use Rattle.rules.specs.Lists.{occ, sum}
use Rattle.rules.specs.Heap.{Heap, cells, kind_of, entries, Used, Free}
use Rattle.rules.specs.Release.{Work, start}
use Rattle.rules.specs.Collect.{collect}
use Rattle.rules.specs.Numbers.{freed_cells}
use Rattle.rules.specs.Counts.{collect_met}
use Rattle.laws.specs.Lists.Tables.{inside}
use Rattle.laws.specs.Lists.Tests.{none_of, and_join, and_left, and_right}
use Rattle.laws.specs.Lists.Occ.{occ_nil}
use Rattle.laws.specs.Lists.Select.{select_only, select_once, select_in, length_by_occ}
use Rattle.laws.specs.Sound.But.{SoundBut}
use Rattle.laws.specs.Reach.Safe.{Kept}
use Rattle.laws.specs.Release.Balance.{Advance}
use Rattle.laws.specs.Collect.Live.{garbage_once}
use Rattle.laws.specs.Collect.Left.{collect_left}
use Rattle.laws.specs.Collect.Swept.{collect_sound, collect_kept, collect_freed, freed_collect}
use Rattle.laws.specs.Counts.Noted.{Noted, noted_nothing, noted_from}
use Rattle.laws.specs.Counts.Cascade.{NotedWork}
use Rattle.laws.specs.Counts.Sweep.{collect_noted}

-- from the tables h to the work v; `stood` are the slots after the call's own write, and so many entries left the queue; `met` are the counts that take-offs
-- met, and so many counts rose for what was placed
pub record Outcome (h : Heap) (stood : List ℕ) (left : ℕ) (met : List ℕ) (placed : ℕ) (v : Work) : Type 0 where
  pub sound : SoundBut v.heap []
  pub kept : Kept v.heap stood
  pub once : (c : ℕ) → occ c v.freed ≤ 1
  pub freed : (c : ℕ) → 1 ≤ occ c v.freed → Used h c × Free v.heap c
  pub all : (c : ℕ) → Used h c → Free v.heap c → 1 ≤ occ c v.freed
  pub entered : entries v.heap ≡ drop left (entries h) ++ map suc v.queued
  pub noted : Noted h.count 0 v.heap.count (length v.queued + placed) met

-- a call that takes nothing off, and so frees and queues nothing
pub outcome_plain : (h after : Heap) (placed : ℕ) → SoundBut after [] → after.slots ≡ h.slots → ((c : ℕ) → Used h c → Used after c) → entries after ≡ entries h
    → sum after.count ≡ sum h.count + placed → Outcome h h.slots 0 [] placed (start after)
unfolding start
outcome_plain h after placed s slots used es counts = record {
  sound = s;
  kept = λ c i u b. ap (λ (l : List ℕ). get_or l (8 * c + i) 0) slots;
  once = λ c. omega (arith, occ_nil c);
  freed = λ c b. absurd (omega (arith, occ_nil c));
  all = λ c u f. absurd (omega (arith, used c u));
  entered = es ∙ sym (append-nil (entries h));
  noted = noted_nothing (omega arith);
}

-- one that takes references off, from tables that the call's own write made
pub outcome_advance : (h written : Heap) (left : ℕ) (met : List ℕ) (placed : ℕ) (v : Work) (cells joined : List ℕ) → written.kind ≡ h.kind
    → entries written ≡ drop left (entries h) → Advance (start written) v cells joined → SoundBut v.heap []
    → sum written.count ≡ sum h.count + placed → NotedWork (start written) v met → Outcome h written.slots left met placed v
unfolding start
outcome_advance h written left met placed v cells joined kinds es a s raised n =
    let was : (c : ℕ) → kind_of written c ≡ kind_of h c = λ c. ap (λ (l : List ℕ). get_or l c 0) kinds in
    let list : (c : ℕ) → occ c v.freed ≡ occ c cells = λ c. ap (occ c) a.freed in
    record {
      sound = s;
      kept = λ c i u b. a.slots c i b (none_of (occ c cells) (λ o. omega (arith, a.no_kind c o)));
      once = λ c. omega (arith, list c, a.once c);
      freed = λ c b. (omega (arith, was c, a.used c (omega (arith, list c))), a.no_kind c (omega (arith, list c)));
      all = λ c u f. by_cases (dec_lt 0 (occ c cells)) (λ o. omega (arith, list c)) (λ n. absurd (omega (arith, was c, a.kind c (omega arith))));
      entered = a.entered ∙ ap (λ (l : List ℕ). l ++ map suc joined) es ∙ ap (λ (l : List ℕ). drop left (entries h) ++ map suc l) (sym a.queued);
      noted = noted_from placed raised n;
    }

pub outcome_collect : (h : Heap) → SoundBut h [] → Outcome h h.slots 0 (collect_met h) 0 (collect h)
unfolding collect
outcome_collect h s = record {
  sound = collect_sound h s;
  kept = collect_kept h s;
  once = garbage_once h s;
  freed = collect_freed h s;
  all = freed_collect h s;
  entered = (collect_left h s).entries_are;
  noted = noted_from 0 (omega arith) (collect_noted h s);
}

-- the number of cells listed as freed is the number of those used before and free after
pub outcome_freed : {h : Heap} {stood met : List ℕ} {left placed : ℕ} {v : Work} → Outcome h stood left met placed v → length v.freed ≡ length (freed_cells h v.heap)
unfolding freed_cells
outcome_freed {h} {v = v} o = length_by_occ (cells h) v.freed (freed_cells h v.heap) (λ x b. inside h.kind x (o.freed x b).0) same
  where
    went : ℕ → Bool
    went c = not (eqb (kind_of h c) 0) && eqb (kind_of v.heap c) 0

    listed : (x : ℕ) → 1 ≤ occ x (freed_cells h v.heap) → 1 ≤ occ x v.freed
    listed x b =
        let r = select_only went (cells h) x (unfold freed_cells in b) in
        let n : kind_of h x ≢ 0 = eqb-false (kind_of h x) 0 (not-true _ (and_left (not (eqb (kind_of h x) 0)) (eqb (kind_of v.heap x) 0) r.1)) in
        o.all x (omega arith) (eqb-true (kind_of v.heap x) 0 (and_right (not (eqb (kind_of h x) 0)) (eqb (kind_of v.heap x) 0) r.1))

    selected : (x : ℕ) → 1 ≤ occ x v.freed → 1 ≤ occ x (freed_cells h v.heap)
    selected x b =
        let f = o.freed x b in
        unfold freed_cells in select_in went (cells h) x (inside h.kind x f.0) (and_join (ap not (ne_eqb (kind_of h x) 0 (λ z. omega arith))) (eq-eqb (kind_of v.heap x) 0 f.1))

    once : (x : ℕ) → occ x (freed_cells h v.heap) ≤ 1
    once x = unfold freed_cells in select_once went (cells h) x

    same : (x : ℕ) → occ x v.freed ≡ occ x (freed_cells h v.heap)
    same x =
        by_cases (dec_lt 0 (occ x v.freed))
        (λ b. omega (arith, o.once x, selected x b, once x))
        (λ n. let z : occ x (freed_cells h v.heap) ≡ 0 = none_of (occ x (freed_cells h v.heap)) (λ b. n (listed x b)) in omega arith)
