-- `marking::mark_all` meets its contract: the depth shows in no mark. Assumes nothing.
use Prim.Native.Nat.{ℕ}
use native.Mathlib.Omega.{arith}
use mathlib.Core.List.{List}
use mathlib.Core.Path.{ap, ◌∙◌}
use lib.ListN.{length}
use Rattle.rules.specs.Depth.{mark_table, scan_all}
use Rattle.rules.specs.Words.{marks_of}
use Rattle.laws.specs.Marking.Marks.{Within, Slots}
use Rattle.laws.specs.Marking.Scan.{depth_unseen_two}
use Rattle.laws.specs.Words.Marks.{length_marks}
use Rattle.marking.specs.Steps.{cells_of}
use Rattle.marking.proofs.mark_all.Goals as goal

pub mark_table-requires : goal.mark_table-requires
mark_table-requires c =
    record {
      slots = c.requires.slots;
      words_for = c.requires.words_for;
      within = c.requires.within;
    }

pub mark_table-requires-2 : goal.mark_table-requires-2
mark_table-requires-2 c =
    let mark-table = c.mark_table in
    record {
      slots = c.requires.slots;
      words_for = mark-table.ensures.fits;
      within = c.requires.within_2;
    }

pub mark_noted-requires : goal.mark_noted-requires
mark_noted-requires c =
    let mark-table2 = c.mark_table-2 in
    record {
      slots = c.requires.slots;
      words_for = mark-table2.ensures.fits;
    }

pub returns : goal.returns
returns c =
    let mark-table2 = c.mark_table-2 in
    let mark-table = c.mark_table in
    let mark-noted = c.mark_noted in
    let slots = c.args.slots.now in
    let roots = c.args.roots.now in
    let queue = c.args.queue.now in
    let n = cells_of slots in
    let m = marks_of n c.args.marks.now in
    let size = length_marks n c.args.marks.now in
    let fit : Slots slots (length m) = rw size c.requires.slots in
    let roots_within : Within (length m) roots = rw size c.requires.within in
    let queue-within : Within (length m) queue = rw size c.requires.within_2 in
    let tables = mark-table2.ensures.marks ∙ ap (λ (x : List ℕ). mark_table 16 slots x queue) mark-table.ensures.marks in
    record {
      fits = mark-noted.ensures.fits;
      marks = mark-noted.ensures.marks ∙ ap (scan_all 16 slots) tables
          ∙ depth_unseen_two 16 16 (omega arith) m fit c.requires.closed_marks roots queue roots_within queue-within;
    }
