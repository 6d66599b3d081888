-- `marking::mark_noted` meets its contract. Each turn marks a noted cell, and no cell loses its mark. Assumes nothing.
use native.Mathlib.Omega.{arith}
use mathlib.Core.Path.{◌≡◌, refl, sym, ap, ◌∙◌}
use lib.ListN.{length}
use Rattle.rules.specs.Depth.{mark_cell, next_noted, noted_between}
use Rattle.rules.specs.Words.{marks_of}
use Rattle.laws.specs.Marking.Marks.{Slots}
use Rattle.laws.specs.Marking.Scan.{next_first, scanning_begin, scanning_turn, scanning_less, scanning_done}
use Rattle.laws.specs.Words.Marks.{length_marks}
use Rattle.marking.specs.Steps.{cells_of}
use Rattle.marking.proofs.mark_noted.Goals as goal

pub first_noted-next-requires : goal.first_noted-next-requires
first_noted-next-requires c =
    let shared-slice-known = c.shared_slice_known-1 in
    (c.requires.words_for, omega (arith, shared-slice-known.given 0))

pub loop-next-init : goal.loop-next-init
loop-next-init c =
    let first_noted = c.first_noted-next in
    let n = cells_of c.args.slots.now in
    let m = marks_of n c.args.marks.now in
    let first : noted_between m 0 n ≡ next_noted m 0 = ap (noted_between m 0) (sym (length_marks n c.args.marks.now)) ∙ next_first m in
    (noted_between m 0 n, first_noted.ensures, c.requires.words_for, refl, scanning_begin m (noted_between m 0 n) first)

pub mark_cell-requires : goal.mark_cell-requires
mark_cell-requires c =
    let loop = c.loop-next in
    let is = rw c.in-Some.is at loop.invariant.1 in
    record {
      slots = c.requires.slots;
      words_for = loop.invariant.2;
      cell_bound = (omega arith, omega arith);
    }

pub next_noted-next-requires : goal.next_noted-next-requires
next_noted-next-requires c =
    let loop = c.loop-next in
    let mark-cell = c.mark_cell in
    let shared-slice-known = c.shared_slice_known-1 in
    let is = rw c.in-Some.is at loop.invariant.1 in
    record {
      words_for = (mark-cell.ensures.fits, omega (arith, shared-slice-known.given 0));
      from_lt_cells = omega arith;
    }

pub loop-next-smaller : goal.loop-next-smaller
loop-next-smaller c =
    let loop = c.loop-next in
    let mark-cell = c.mark_cell in
    let slots = c.args.slots.now in
    let n = cells_of slots in
    let m = marks_of n loop.marks in
    let after = marks_of n mark-cell.new.marks in
    let is = rw c.in-Some.is at loop.invariant.1 in
    let size = length_marks n loop.marks in
    let fit : Slots slots (length m) = rw size c.requires.slots in
    let step = mark-cell.ensures.marks ∙ ap (mark_cell 16 slots m) is.0 in
    omega (arith, scanning_less (omega arith) m after fit loop.invariant.4 (omega arith) step, size, length_marks n mark-cell.new.marks)

pub loop-next-preserved : goal.loop-next-preserved
loop-next-preserved c =
    let loop = c.loop-next in
    let mark-cell = c.mark_cell in
    let next-noted = c.next_noted-next in
    let slots = c.args.slots.now in
    let n = cells_of slots in
    let m = marks_of n loop.marks in
    let after = marks_of n mark-cell.new.marks in
    let is = rw c.in-Some.is at loop.invariant.1 in
    let size = length_marks n loop.marks in
    let fit : Slots slots (length m) = rw size c.requires.slots in
    let step = mark-cell.ensures.marks ∙ ap (mark_cell 16 slots m) is.0 in (
      next_noted after loop.invariant.0,
      rw is.0 at next-noted.ensures,
      mark-cell.ensures.fits,
      mark-cell.auto.marks ∙ loop.invariant.3,
      scanning_turn (omega arith) m after fit loop.invariant.4 (omega arith) step (next_noted after loop.invariant.0) refl,
    )

pub returns : goal.returns
returns c =
    let loop = c.loop-next in
    let n = cells_of c.args.slots.now in
    let past = rw c.in_default.is at loop.invariant.1 in
    record { fits = loop.invariant.2; marks = scanning_done (marks_of n loop.marks) loop.invariant.0 loop.invariant.4 (omega (arith, length_marks n loop.marks)) }
