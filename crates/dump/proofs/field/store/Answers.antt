-- `dump::field::store` meets its contract: an empty field and an entry with no room spoil the heap, any other entry is stored. Assumes nothing.
use native.Mathlib.Omega.{arith}
use Rattle.dump.proofs.Cases.{no_field, no_room, one_more}
use Rattle.dump.proofs.Held.{goes_spoiled}
use Rattle.dump.proofs.Storing.{goes_entered}
use Rattle.dump.proofs.field.store.Goals as goal

pub returns-then-reader-eq0 : goal.returns-then-reader-eq0
returns-then-reader-eq0 c = goes_spoiled c.spoil.ensures (λ ts row. no_field _ (omega arith))

pub returns-then-place-ge-ENTRIES_MAX : goal.returns-then-place-ge-ENTRIES_MAX
returns-then-place-ge-ENTRIES_MAX c = goes_spoiled c.spoil-then-place-ge-ENTRIES_MAX.ensures (λ ts row. no_room _ (omega arith))

pub returns : goal.returns
returns c =
    goes_entered _ _ _ _ _ (omega arith) (omega arith) (omega arith) (omega arith) (λ ts row. one_more _ (λ z. omega arith) (omega arith))
