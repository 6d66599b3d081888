-- What a function of the heap does on a sound heap, with a table for the list of the cells that it frees.
-- Assumes nothing.
use Rattle.std.specs.Prelude.{ℕ, suc, ◌≤◌, List, map, false, ◌≢◌, ◌≡◌, refl, length, take}
use Rattle.std.proofs.Common.{sym, ap, ◌∙◌}
use Rattle.rules.specs.declared.Answer.{Answer}
use Rattle.rules.specs.Heap.{Heap, cells}
use Rattle.rules.specs.Sound.{Ready}
use Rattle.rules.specs.Refusals.{Call, is_fresh, refusal_sound}
use Rattle.rules.specs.Calls.{Result, answers, refuse, act, step}
use Rattle.laws.specs.Calls.Admission.{ready_refused, step_refused, step_done}

-- Tables and answer are those of `step`. The table `list`, which was `room`, begins with the references of the freed cells, if it has room for every cell;
-- nothing is said of the entries behind them, nor of a table with less room. A refusal leaves it.
pub record Ran (call : Call) (before : Heap) (room : List ℕ) (after : Heap) (list : List ℕ) (answer : Answer) : Type 0 where
  pub heap : after ≡ (step before call).heap
  pub answered : answer ≡ (step before call).answer
  pub listed : cells before ≤ length room → take (length (step before call).freed) list ≡ map suc (step before call).freed
  pub kept : answer.refused ≢ 0 → list ≡ room

-- refused by one of the call's own conditions, of `Calls.Cases`
pub inner_refused : {h : Heap} {room : List ℕ} {call : Call} {why : ℕ} {a : Answer} → Ready h → is_fresh call ≡ false → refusal_sound h call ≡ why → why ≢ 0
    → a ≡ answers why 0 0 0 → Ran call h room h room a
unfolding refuse
inner_refused {h} {room} {call} {why} {a} r n e some b =
    let s : step h call ≡ refuse h why = step_refused h call why (sym (ready_refused h call r n ∙ e)) some in
    record {
      heap = sym (ap (λ (x : Result). x.heap) s);
      answered = b ∙ sym (ap (λ (x : Result). x.answer) s);
      listed = λ l. ap (λ (x : Result). take (length x.freed) room) s ∙ sym (ap (λ (x : Result). map suc x.freed) s);
      kept = λ m. refl;
    }

-- none of them, and done
pub inner_done : {h after : Heap} {room list : List ℕ} {call : Call} {a : Answer} → Ready h → is_fresh call ≡ false → refusal_sound h call ≡ 0
    → after ≡ (act h call).heap → a ≡ (act h call).answer → a.refused ≡ 0
    → (cells h ≤ length room → take (length (act h call).freed) list ≡ map suc (act h call).freed) → Ran call h room after list a
inner_done {h} {after} {room} {list} {call} {a} r n e heap answered none listed =
    let s : step h call ≡ act h call = step_done h call (ready_refused h call r n ∙ e) in
    record {
      heap = heap ∙ sym (ap (λ (x : Result). x.heap) s);
      answered = answered ∙ sym (ap (λ (x : Result). x.answer) s);
      listed = λ l. ap (λ (x : Result). take (length x.freed) list) s ∙ listed l ∙ sym (ap (λ (x : Result). map suc x.freed) s);
      kept = λ m. absurd (m none);
    }
