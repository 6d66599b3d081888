-- What the loop over a batch's records asks, and what it leaves. Assumes nothing: these are definitions.
use Rattle.std.specs.Prelude.{List, ◌≡◌, length}
use Rattle.rules.specs.declared.Answer.{Answer}
use Rattle.rules.specs.declared.batch.Totals.{Totals}
use Rattle.rules.specs.Heap.{Heap}
use Rattle.rules.specs.Sound.{Ready}
use Rattle.rules.specs.Batch.{Batch, obey_batch}
use Rattle.batch.specs.Room.{HasRoom}

-- a sound heap, an answer's place for each record, and totals with room for their answers
pub record CanRun (b : Batch) (h : Heap) : Type 0 where
  pub ready : Ready h
  pub places : length b.answers ≡ length b.records
  pub room : HasRoom (length b.records) b.totals

-- all that a batch leaves but its own answer
pub record AllRan (b : Batch) (before after : Heap) (list : List Answer) (sums : Totals) : Type 0 where
  pub heap : after ≡ (obey_batch before b).heap
  pub answers : list ≡ (obey_batch before b).answers
  pub totals : sums ≡ (obey_batch before b).totals
