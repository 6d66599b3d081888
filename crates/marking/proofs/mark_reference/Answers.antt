-- `marking::mark_reference` meets its contract. Assumes nothing.
use native.Mathlib.Omega.{arith}
use mathlib.Core.Path.{sym, ap, ◌∙◌}
use Rattle.rules.specs.Depth.{mark_cell}
use Rattle.rules.specs.Words.{marks_of}
use Rattle.laws.specs.Marking.Steps.{slot_cell, slot_none, mark_named}
use Rattle.marking.specs.Steps.{cells_of}
use Rattle.marking.proofs.mark_reference.Goals as goal

pub to_mark-requires : goal.to_mark-requires
to_mark-requires c =
    omega (arith, c.requires.words_for.room)

pub overflow_sub-reference : goal.overflow_sub-reference
overflow_sub-reference c =
    let to-mark = c.to_mark in
    let if1 = c.if-to_mark in
    let n = cells_of c.args.slots.now in
    let named = mark_named (marks_of n c.args.marks.now) c.args.reference (sym (to-mark.ensures n c.requires.reference_bound) ∙ if1.true) in
    omega arith

pub returns-in_default : goal.returns-in_default
returns-in_default c =
    let to-mark = c.to_mark in
    let if1 = c.if-to_mark in
    let of = c.of in
    let n = cells_of c.args.slots.now in
    let named = mark_named (marks_of n c.args.marks.now) c.args.reference (sym (to-mark.ensures n c.requires.reference_bound) ∙ if1.true) in
    absurd (omega (arith, c.in_default.ensures))

pub mark_cell-requires : goal.mark_cell-requires
mark_cell-requires c =
    let of = c.of in
    let is = c.in-Some.ensures in
    record {
      slots = c.requires.slots;
      words_for = c.requires.words_for;
      cell_bound = (omega arith, omega arith);
    }

pub returns-in-Some : goal.returns-in-Some
returns-in-Some c =
    let of = c.of in
    let to-mark = c.to_mark in
    let if1 = c.if-to_mark in
    let mark-cell = c.mark_cell in
    let slots = c.args.slots.now in
    let n = cells_of slots in
    let m = marks_of n c.args.marks.now in
    let reference = c.args.reference in
    let is = c.in-Some.ensures in
    let asked = slot_cell slots m 16 reference (to-mark.ensures n c.requires.reference_bound) if1.true in
    record { fits = mark-cell.ensures.fits; marks = mark-cell.ensures.marks ∙ ap (mark_cell 16 slots m) is.0 ∙ sym asked }

pub returns-else-to_mark : goal.returns-else-to_mark
returns-else-to_mark c =
    let to-mark = c.to_mark in
    let if1 = c.if-to_mark in
    let slots = c.args.slots.now in
    let n = cells_of slots in
    let m = marks_of n c.args.marks.now in
    record { fits = c.requires.words_for; marks = sym (slot_none slots m 16 c.args.reference (to-mark.ensures n c.requires.reference_bound) if1.false) }
