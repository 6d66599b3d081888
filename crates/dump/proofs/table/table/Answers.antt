-- `dump::table::table` meets its contract: no entry of a heap that can fit no N, or those from where the table begins to where it ends. Assumes nothing.
use native.Mathlib.Omega.{arith}
use mathlib.Core.Path.{refl}
use Rattle.dump.proofs.Given.{complete_inside, gives_none, gives_table}
use Rattle.dump.proofs.table.table.Goals as goal

pub returns-then-reader : goal.returns-then-reader
returns-then-reader c = gives_none _ _ _ _ _ c.if-reader.true refl

pub between-requires : goal.between-requires
between-requires c =
    let args = c.args in
    complete_inside args.reader args.entries.now args.ends.now args.i _ _ c.requires.complete c.requires.i_bound
    c.if-reader.false c.start_of-from.ensures refl

pub returns : goal.returns
returns c =
    let fit = c.if-reader.false in
    gives_table _ _ _ _ _ _ _ fit (omega (arith, c.requires.complete.whole)) c.start_of-from.ensures refl c.between.ensures
