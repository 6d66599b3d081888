-- `dump::line::last_field` meets its contract: nothing ends in a heap that can fit no N, and nothing in an empty line. Assumes nothing.
use borrow.Author.Tests.{not-true, not-false}
use Rattle.dump.proofs.Cases.{last_spoilt, last_none, last_entered}
use Rattle.dump.proofs.Held.{goes_nowhere, goes_as}
use Rattle.dump.proofs.line.last_field.Goals as goal

pub returns-then-reader : goal.returns-then-reader
returns-then-reader c = goes_nowhere (λ ts row. last_spoilt _ c.if-reader.true)

pub returns-then-not-reader : goal.returns-then-not-reader
returns-then-not-reader c = goes_nowhere (λ ts row. last_none _ (not-true _ c.if-not-reader.true))

pub returns : goal.returns
returns c =
    let begun = not-false _ c.if-not-reader.false in
    goes_as c.store.ensures (λ ts row. last_entered _ c.if-reader.false begun)
