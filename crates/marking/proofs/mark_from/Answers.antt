-- `marking::mark_from` meets its contract: the depth shows in no mark. Assumes nothing.
use native.Mathlib.Omega.{arith}
use mathlib.Core.Path.{ap, ◌∙◌}
use lib.ListN.{length}
use Rattle.rules.specs.Depth.{scan_all}
use Rattle.rules.specs.Words.{marks_of}
use Rattle.laws.specs.Marking.Marks.{Within, Slots}
use Rattle.laws.specs.Marking.Scan.{depth_unseen}
use Rattle.laws.specs.Words.Marks.{length_marks}
use Rattle.marking.specs.Steps.{cells_of}
use Rattle.marking.proofs.mark_from.Goals as goal

pub mark_table-requires : goal.mark_table-requires
mark_table-requires c =
    record {
      slots = c.requires.slots;
      words_for = c.requires.words_for;
      within = c.requires.within;
    }

pub mark_noted-requires : goal.mark_noted-requires
mark_noted-requires c =
    let mark-table = c.mark_table in
    record {
      slots = c.requires.slots;
      words_for = mark-table.ensures.fits;
    }

pub returns : goal.returns
returns c =
    let mark-noted = c.mark_noted in
    let mark-table = c.mark_table in
    let slots = c.args.slots.now in
    let table = c.args.table.now in
    let n = cells_of slots in
    let m = marks_of n c.args.marks.now in
    let size = length_marks n c.args.marks.now in
    let fit : Slots slots (length m) = rw size c.requires.slots in
    let within : Within (length m) table = rw size c.requires.within in
    record {
      fits = mark-noted.ensures.fits;
      marks = mark-noted.ensures.marks ∙ ap (scan_all 16 slots) mark-table.ensures.marks
          ∙ depth_unseen 16 16 (omega arith) m fit c.requires.closed_marks table within;
    }
