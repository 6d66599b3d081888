-- `dump::reader::last_line` meets its contract: a CR is held back, the line has begun, or neither. Assumes nothing.
use native.Mathlib.Omega.{arith}
use mathlib.Core.Path.{ap}
use Rattle.dump.specs.declared.reader.Reader.{Reader}
use Rattle.dump.proofs.Cases.{last_lone_cr, last_ends, last_nothing}
use Rattle.dump.proofs.Held.{goes_nowhere}
use Rattle.dump.proofs.Stepping.{steps_as, steps_goes, steps_spoiled}
use Rattle.dump.proofs.reader.last_line.Goals as goal

pub end_line-requires : goal.end_line-requires
end_line-requires c =
    let entry = c.requires in
    let same = ap (λ (x : Reader). x.tables) c.spoil.ensures in
    record { room = entry.room; marks = entry.marks; unfinished = omega (arith, same, entry.unfinished) }

pub returns-then-reader : goal.returns-then-reader
returns-then-reader c =
    let lone = c.if-reader.true in
    let spoil = c.spoil in
    steps_as (steps_spoiled spoil.ensures c.end_line.ensures) (λ ts row. last_lone_cr _ lone)

pub returns-then-reader-2 : goal.returns-then-reader-2
returns-then-reader-2 c =
    let plain = c.if-reader.false in
    let begun = c.if-reader-2.true in
    steps_as c.end_line-then-reader-2.ensures (λ ts row. last_ends _ plain begun)

pub returns : goal.returns
returns c =
    let entry = c.requires in
    steps_goes entry.unfinished (goes_nowhere (λ ts row. last_nothing _ c.if-reader.false c.if-reader-2.false))
