-- `dump::reader::feed` meets its contract: LF after CR ends the line; any other byte after CR spoils the heap. Assumes nothing.
use native.Mathlib.Omega.{arith}
use mathlib.Core.Path.{ap}
use borrow.Author.Tests.{not-true, not-false}
use Rattle.dump.specs.declared.reader.Reader.{Reader}
use Rattle.dump.proofs.Cases.{fed_plain, fed_line_end, fed_lone_cr}
use Rattle.dump.proofs.Stepping.{steps_as, steps_goes, steps_spoiled}
use Rattle.dump.proofs.reader.feed.Goals as goal

pub returns-then-not-reader : goal.returns-then-not-reader
returns-then-not-reader c =
    let entry = c.requires in
    let plain = not-true _ c.if-not-reader.true in
    steps_as (steps_goes entry.unfinished c.next.ensures) (λ ts row. fed_plain _ _ plain)

pub returns-then-byte-eq10 : goal.returns-then-byte-eq10
returns-then-byte-eq10 c =
    let held = not-false _ c.if-not-reader.false in
    steps_as c.end_line.ensures (λ ts row. fed_line_end _ _ held (omega arith))

pub returns : goal.returns
returns c =
    let entry = c.requires in
    let held = not-false _ c.if-not-reader.false in
    let other = c.if-byte-eq10.false in
    let spoil = c.spoil in
    let same = ap (λ (x : Reader). x.tables) spoil.ensures in
    steps_as (steps_spoiled spoil.ensures (steps_goes (omega (arith, same, entry.unfinished)) c.next-2.ensures))
    (λ ts row. fed_lone_cr _ _ held other)
