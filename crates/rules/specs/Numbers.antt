-- What an answer's numbers say of the tables: "freed (cells used before and free after); queued (cells put in the queue by this call)"; and what the list of
-- freed cells says, by Q-5 of document 02.
-- Assumes nothing: these are definitions.
use Rattle.std.specs.Prelude.{ℕ, zero, suc, ◌≤◌, List, ◌++◌, map, not, ◌&&◌, ◌↔◌, ◌≡◌, eqb, length, get_or, take, drop}
use Rattle.rules.specs.declared.Answer.{Answer}
use Rattle.rules.specs.Lists.{occ, select}
use Rattle.rules.specs.Heap.{Heap, cells, kind_of, entries, Used, Free}
use Rattle.rules.specs.Refusals.{Call}
use Rattle.rules.specs.Refusals.Call.{FRESH, NEW, CLEAR, COPY, LOAD, STORE, COLLECT, START, FINISH}

-- the cells used before and free after
unfoldable pub freed_cells : Heap → Heap → List ℕ
freed_cells before after = select (λ c. not (eqb (kind_of before c) 0) && eqb (kind_of after c) 0) (cells before)

-- how many entries leave the queue: the head, with a FINISH done. The number is the call's refusal, 0 for done
unfoldable pub leaving : Call → ℕ → ℕ
leaving FRESH r = 0
leaving (NEW a b c) r = 0
leaving (CLEAR a) r = 0
leaving (COPY a b) r = 0
leaving (LOAD a b c) r = 0
leaving (STORE a b c) r = 0
leaving COLLECT r = 0
leaving (START a) r = 0
leaving FINISH zero = 1
leaving FINISH (suc r) = 0

-- the entries of a list that name cells: "its first "freed" entries"
abbrev pub names : List ℕ → Answer → List ℕ
names list answer = take answer.freed list

pub record TrueNumbers (call : Call) (before after : Heap) (list : List ℕ) (answer : Answer) : Type 0 where
  pub freed : answer.freed ≡ length (freed_cells before after)
  -- exactly the cells used before and free after are listed, each once, and nothing else
  pub went : (c : ℕ) → (1 ≤ occ (suc c) (names list answer)) ↔ (Used before c × Free after c)
  pub once : (r : ℕ) → occ r (names list answer) ≤ 1
  pub none_empty : occ 0 (names list answer) ≡ 0
  -- "COLLECT's in cell order", in which `freed_cells` has them
  pub ordered : call ≡ COLLECT → names list answer ≡ map suc (freed_cells before after)
  -- "and the rest are 0"
  pub rest : answer.refused ≡ 0 → (i : ℕ) → answer.freed ≤ i → get_or list i 0 ≡ 0
  -- the cells put in the queue are those behind what was left of it
  pub joined : List ℕ
  pub queue : entries after ≡ drop (leaving call answer.refused) (entries before) ++ map suc joined
  pub queued : answer.queued ≡ length joined
