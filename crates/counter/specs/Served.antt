-- What a read did to the reader and the tables. What was read and written stands in `Written`.
-- Assumes nothing: these are definitions.
use Rattle.std.specs.Prelude.{ℕ, List, Option, IfSome}
use Rattle.csv_text.specs.declared.reader.Reader.{Reader}
use Rattle.rules.specs.Heap.{Heap}
use Rattle.session.specs.Deliveries.{Took}

-- some bytes of the input were taken, all of them, if the run goes on
pub record AnsweredSome (s : Reader) (h k : Heap) (r : Option Reader) : Type 0 where
  pub bytes : List ℕ
  pub answered : IfSome r (λ t. Took s h bytes t k)
