-- Where a batch stands between two records, in plain lists and numbers: what is left of it leads to what the whole of it leaves.
--     Point                  so many records are done, so many are left, and the tables, answers and totals by now
--     Stands                 what holds there
--     turn_by, finish        a record's turn keeps it, and at the end it says what the batch leaves
--     can_raise_by           the next answer can be added to the totals
-- Assumes nothing.
use mathlib.Core.Path.{◌≡◌, sym, ◌∙◌, ap, subst, subst⁻¹}
use mathlib.Core.List.{List, [], ◌∷◌, ◌++◌, append_assoc, append-nil}
use Prim.Native.Nat.{ℕ, suc, ◌+◌, ◌<◌, ◌≤◌, ◌-◌}
use native.Mathlib.Omega.{arith}
use mathlib.Core.Bool.{Bool, true, false, cond}
use lib.Dec.{eqb}
use lib.ListN.{length, get_or, set, take, drop, length-set, drop_of_length-le}
use lib.Seq.{drop-cons, take-suc-set, take_all}
use Rattle.rules.specs.declared.Answer.{Answer}
use Rattle.rules.specs.declared.batch.CallRecord.{CallRecord}
use Rattle.rules.specs.declared.batch.Totals.{Totals}
use Rattle.rules.specs.Heap.{Heap}
use Rattle.rules.specs.Sound.{Ready}
use Rattle.rules.specs.Asked.{Asked, Obeyed, obey, obey_all, answers_to}
use Rattle.rules.specs.Batch.{Batch, asked_by, asks, raised_by, raised, obey_batch}
use Rattle.laws.specs.Calls.Asked.{never_fresh}
use Rattle.batch.specs.Room.{HasRoom, CanRaise}
use Rattle.batch.specs.Run.{AllRan}
use Rattle.laws.specs.Demand.Bounds.{obey_ready, obey_few}

pub record Point : Type 0 where
  pub i : ℕ
  pub left : ℕ
  pub heap : Heap
  pub answers : List Answer
  pub totals : Totals

-- where there is no record
abbrev pub no_record : CallRecord
no_record = record { call = 0; first = 0; second = 0; third = 0 }

-- one answer takes no more of the totals' room than one call may
raised_room : (t : Totals) (a : Answer) (n : ℕ) → HasRoom (suc n) t → (a.freed ≤ 1024) × (a.queued ≤ 1024) → HasRoom n (raised_by t a)
unfolding raised_by
raised_room t a n h few = go (eqb a.refused 0)
  where
    counted : Bool → Totals
    counted done? = record {
      done = t.done + cond done? 1 0;
      refused = t.refused + cond done? 0 1;
      freed = t.freed + a.freed;
      queued = t.queued + a.queued;
    }

    go : (done? : Bool) → HasRoom n (counted done?)
    go true = (omega (arith, h), omega (arith, h), omega (arith, h, few), omega (arith, h, few))
    go false = (omega (arith, h), omega (arith, h), omega (arith, h, few), omega (arith, h, few))

module _ (h₀ : Heap) (b : Batch) where
  -- what the records after the first i ask for
  abbrev rest : ℕ → List Asked
  rest i = asks (drop i b.records)

  pub record Stands (p : Point) : Type 0 where
    pub sum : p.i + p.left ≡ length b.records
    pub places : length p.answers ≡ length b.records
    pub heap : obey_all p.heap (rest p.i) ≡ obey_all h₀ (asks b.records)
    pub answers : take p.i p.answers ++ answers_to p.heap (rest p.i) ≡ answers_to h₀ (asks b.records)
    pub totals : raised p.totals (answers_to p.heap (rest p.i)) ≡ raised b.totals (answers_to h₀ (asks b.records))
    pub room : HasRoom p.left p.totals
    pub ready : Ready p.heap

  module _ (p : Point) (s : Stands p) where
    -- the record that comes now, and its answer
    abbrev pub record_now : CallRecord
    record_now = get_or b.records p.i no_record

    abbrev pub answer_now : Answer
    answer_now = (obey p.heap (asked_by record_now)).answer

    abbrev pub next : Point
    next = record {
      i = p.i + 1;
      left = p.left - 1;
      heap = (obey p.heap (asked_by record_now)).heap;
      answers = set p.answers p.i answer_now;
      totals = raised_by p.totals answer_now;
    }

    few : (answer_now.freed ≤ 1024) × (answer_now.queued ≤ 1024)
    few = obey_few p.heap (asked_by record_now) (never_fresh _ _ _ _) s.ready

    module _ (within : p.i < length b.records) where
      one_left : HasRoom (suc (p.left - 1)) p.totals
      one_left = subst (λ (n : ℕ). HasRoom n p.totals) (omega (arith, s.sum, within)) s.room

      pub can_raise : CanRaise p.totals answer_now
      can_raise = ((omega (arith, one_left), omega (arith, one_left), omega (arith, one_left), omega (arith, one_left)), few.0, few.1)

      onward : p.i + 1 ≡ suc p.i
      onward = omega arith

      cut : drop p.i b.records ≡ record_now ∷ drop (p.i + 1) b.records
      cut =
          drop-cons b.records p.i no_record within
          ∙ ap (λ (j : ℕ). record_now ∷ drop j b.records) (sym onward)

      one_more : take (p.i + 1) next.answers ≡ take p.i p.answers ++ (answer_now ∷ [])
      one_more =
          ap (λ (j : ℕ). take j next.answers) onward
          ∙ take-suc-set p.answers p.i answer_now (subst (λ (n : ℕ). p.i < n) (sym s.places) within)

      pub turn : Stands next
      unfolding obey_all answers_to raised
      turn = record {
        sum = omega (arith, s.sum, within);
        places = length-set p.answers p.i answer_now ∙ s.places;
        heap = sym (ap (λ (l : List CallRecord). obey_all p.heap (asks l)) cut) ∙ s.heap;
        answers =
            ap (λ (l : List Answer). l ++ answers_to next.heap (rest (p.i + 1))) one_more
            ∙ append_assoc (take p.i p.answers) (answer_now ∷ []) (answers_to next.heap (rest (p.i + 1)))
            ∙ sym (ap (λ (l : List CallRecord). take p.i p.answers ++ answers_to p.heap (asks l)) cut)
            ∙ s.answers;
        totals = sym (ap (λ (l : List CallRecord). raised p.totals (answers_to p.heap (asks l))) cut) ∙ s.totals;
        room = raised_room p.totals answer_now (p.left - 1) one_left few;
        ready = obey_ready p.heap (asked_by record_now) s.ready;
      }

      -- both, as the step and the raising of the totals leave them
      module _ {after : Heap} {a : Answer} (o : Obeyed (asked_by record_now) p.heap after a) where
        pub can_raise_by : CanRaise p.totals a
        can_raise_by = subst (λ (x : Answer). CanRaise p.totals x) (sym o.answered) can_raise

        pub turn_by : {sums : Totals} (left : ℕ) → left ≡ p.left - 1 → sums ≡ raised_by p.totals a
            → Stands (record { i = p.i + 1; left = left; heap = after; answers = set p.answers p.i a; totals = sums })
        turn_by {sums = sums} left l e = subst⁻¹ Stands led turn
          where
            led : record { i = p.i + 1; left = left; heap = after; answers = set p.answers p.i a; totals = sums } ≡ next
            led = λ k. record {
              i = p.i + 1;
              left = l k;
              heap = o.heap k;
              answers = set p.answers p.i (o.answered k);
              totals = (e ∙ ap (raised_by p.totals) o.answered) k;
            }

    module _ (past : length b.records ≤ p.i) where
      none : drop p.i b.records ≡ []
      none = drop_of_length-le b.records {i = p.i} past

      pub finish : AllRan b h₀ p.heap p.answers p.totals
      unfolding obey_all answers_to raised obey_batch
      finish = record {
        heap = sym (ap (λ (l : List CallRecord). obey_all p.heap (asks l)) none) ∙ s.heap;
        answers =
            sym (take_all p.i p.answers (omega (arith, s.places, past)))
            ∙ sym (append-nil (take p.i p.answers))
            ∙ sym (ap (λ (l : List CallRecord). take p.i p.answers ++ answers_to p.heap (asks l)) none)
            ∙ s.answers;
        totals = sym (ap (λ (l : List CallRecord). raised p.totals (answers_to p.heap (asks l))) none) ∙ s.totals;
      }
