-- Document 02, Q-7: a whole basket in one call.
-- Assumes nothing: these are definitions.
use Rattle.std.specs.Prelude.{ℕ, zero, suc, ◌+◌, ◌*◌, ◌≤◌, ◌<◌, ◌^◌, List, [], ◌∷◌, map, Bool, not, ◌&&◌, ◌||◌, cond, ◌≢◌, ◌≡◌, eqb, leb, length}
use Rattle.rules.specs.declared.Answer.{Answer}
use Rattle.rules.specs.declared.batch.CallRecord.{CallRecord}
use Rattle.rules.specs.declared.batch.Totals.{Totals}
use Rattle.rules.specs.Heap.{Heap}
use Rattle.rules.specs.Sound.{Sized, Sound}
use Rattle.rules.specs.Check.{fits, sound}
use Rattle.rules.specs.Refusals.{Reason, Condition, ◌when◌, lowest}
use Rattle.rules.specs.Refusals.Reason.{SIZE, DAMAGED, TOTAL}
use Rattle.rules.specs.Calls.{answers}
use Rattle.rules.specs.Asked.{Asked, call_of, obey_all, answers_to}

-- "the host lends a list of call records and a list of answers of the same length, and one record of running totals"
pub record Batch : Type 0 where
  pub records : List CallRecord
  pub answers : List Answer
  pub totals : Totals

-- "A record is four 16-bit numbers as in the program's lines"; "a record whose call number is not 1 to 8, or with an unused number above 0, is LINE"
abbrev pub asked_by : CallRecord → Asked
asked_by r = call_of r.call r.first r.second r.third

-- what a list of records asks for, in order
abbrev pub asks : List CallRecord → List Asked
asks records = map asked_by records

-- ---- the totals: "calls done, calls refused, cells freed, cells queued"

-- raised by one answer; LINE is a refusal
unfoldable pub raised_by : Totals → Answer → Totals
raised_by t a = record {
  done = t.done + cond (eqb a.refused 0) 1 0;
  refused = t.refused + cond (eqb a.refused 0) 0 1;
  freed = t.freed + a.freed;
  queued = t.queued + a.queued;
}

unfoldable pub raised : Totals → List Answer → Totals
raised t [] = t
raised t (a ∷ l) = raised (raised_by t a) l

-- ---- the refusals

-- A batch's own table of refusals, as it reads
pub data WhyBatch : Reason → Heap → Batch → Type 0 where
  -- as for every call
  unsized : {h : Heap} {b : Batch} → ¬ Sized h → WhyBatch SIZE h b
  -- "Lists of unequal length, or over 4,096 long, are SIZE, and a damaged heap is DAMAGED."
  unequal : {h : Heap} {b : Batch} → length b.records ≢ length b.answers → WhyBatch SIZE h b
  long : {h : Heap} {b : Batch} → 4096 < length b.records → WhyBatch SIZE h b
  unsound : {h : Heap} {b : Batch} → ¬ Sound h → WhyBatch DAMAGED h b
  -- "Totals are unsigned 64-bit; if any of the four could pass its end by adding 1,024 times the list's length, the batch is refused 12 TOTAL"
  done_ends : {h : Heap} {b : Batch} → 2 ^ 64 ≤ b.totals.done + 1024 * length b.records → WhyBatch TOTAL h b
  refused_ends : {h : Heap} {b : Batch} → 2 ^ 64 ≤ b.totals.refused + 1024 * length b.records → WhyBatch TOTAL h b
  freed_ends : {h : Heap} {b : Batch} → 2 ^ 64 ≤ b.totals.freed + 1024 * length b.records → WhyBatch TOTAL h b
  queued_ends : {h : Heap} {b : Batch} → 2 ^ 64 ≤ b.totals.queued + 1024 * length b.records → WhyBatch TOTAL h b

-- and as tests that compute: do n records and m answers fit each other
unfoldable pub lists_fit : ℕ → ℕ → Bool
lists_fit n m = eqb n m && leb n 4096

-- could a total pass its end with n records
unfoldable pub ends : ℕ → ℕ → Bool
ends n total = leb (2 ^ 64) (total + 1024 * n)

unfoldable pub some_ends : ℕ → Totals → Bool
some_ends n t = ends n t.done || ends n t.refused || ends n t.freed || ends n t.queued

-- "the last of its checks"
unfoldable pub batch_conditions : Heap → ℕ → ℕ → Totals → List Condition
batch_conditions h n m t = SIZE when not (fits h && lists_fit n m) ∷ DAMAGED when not (sound h) ∷ TOTAL when some_ends n t ∷ []

-- why a batch of n records, m answers and these totals is refused, or 0
unfoldable pub batch_refusal : Heap → ℕ → ℕ → Totals → ℕ
batch_refusal h n m t = lowest (batch_conditions h n m t)

abbrev pub refusal_of : Heap → Batch → ℕ
refusal_of h b = batch_refusal h (length b.records) (length b.answers) b.totals

-- ---- what a batch does

-- the tables, answers and totals that it leaves, and what it "itself answers as FRESH does"
pub record BatchResult : Type 0 where
  pub heap : Heap
  pub answers : List Answer
  pub totals : Totals
  pub answer : Answer

-- "Answers and tables are those of the single calls made one after another, refused records included, which don't stop the batch"
unfoldable pub obey_batch : Heap → Batch → BatchResult
obey_batch h b = record {
  heap = obey_all h (asks b.records);
  answers = answers_to h (asks b.records);
  totals = raised b.totals (answers_to h (asks b.records));
  answer = answers 0 0 0 0;
}

-- "A refused batch writes nothing."
unfoldable pub refuse_batch : Heap → Batch → ℕ → BatchResult
refuse_batch h b r = record { heap = h; answers = b.answers; totals = b.totals; answer = answers r 0 0 0 }

unfoldable pub by_batch_refusal : Heap → Batch → ℕ → BatchResult
by_batch_refusal h b zero = obey_batch h b
by_batch_refusal h b (suc r) = refuse_batch h b (suc r)

-- a batch on any tables, with any lists and totals
unfoldable pub batch_step : Heap → Batch → BatchResult
batch_step h b = by_batch_refusal h b (refusal_of h b)

-- A batch stands so to the tables before and after it, to the answers and the totals that it leaves, and to its own answer
pub record Batched (b : Batch) (before after : Heap) (list : List Answer) (sums : Totals) (answer : Answer) : Type 0 where
  pub heap : after ≡ (batch_step before b).heap
  pub answers : list ≡ (batch_step before b).answers
  pub totals : sums ≡ (batch_step before b).totals
  pub answered : answer ≡ (batch_step before b).answer
