-- `mark_cell` and `mark_slot` meet their contracts: the laws of a step at a slot, and of the steps that a loop has made.
use Rattle.std.proofs.Common.{◌≡◌, ℕ, ◌+◌, ◌-◌, ◌*◌, List, get_or, sym, ap, ◌∙◌, arith, lit≤}
use Rattle.rules.specs.Heap.{slots_of}
use Rattle.rules.specs.Depth.{each, mark_slot, mark_cell}
use Rattle.rules.specs.Words.{marks_of}
use Rattle.laws.specs.Marking.Steps.{each_none, each_slot, each_slots, cell_noted, cell_deep, slot_cell, slot_none, mark_named}
use Rattle.marking.specs.Steps.{cells_of}
use Rattle.marking.proofs.+mark_cell_mark_slot.Goals as goal

pub mark_cell-loop-k-init : goal.mark_cell-loop-k-init
mark_cell-loop-k-init t c =
    let slots = c.args.slots.now in
    let step : List ℕ → ℕ → List ℕ = mark_slot (c.args.depth - 1) slots in (
      lit≤ tt,
      record {
        fits = (c.set_marked.ensures (cells_of slots) c.requires.words_for c.requires.cell_bound.0).fits;
        marks = each_none step (marks_of (cells_of slots) c.set_marked.new.marks) (slots_of slots c.args.cell.0);
      },
    )

pub mark_cell-mark_slot-requires : goal.mark_cell-mark_slot-requires
mark_cell-mark_slot-requires t c =
    let is = c.in-Some.ensures in
    (omega arith, (c.requires.slots, (c.loop-k.invariant.1.fits, (c.requires.cell_bound.0, omega arith))))

pub mark_cell-loop-k-preserved : goal.mark_cell-loop-k-preserved
mark_cell-loop-k-preserved t c =
    let cell = c.args.cell.0 in
    let slots = c.args.slots.now in
    let n = cells_of slots in
    let loop = c.loop-k in
    let is = c.in-Some.ensures in
    let step : List ℕ → ℕ → List ℕ = mark_slot (c.args.depth - 1) slots in (
      omega arith,
      record {
        fits = c.mark_slot.ensures.fits;
        marks = c.mark_slot.ensures.marks ∙ ap (λ (j : ℕ). step (marks_of n loop.marks) (get_or slots (8 * cell + j) 0)) is.0
            ∙ ap (λ (m : List ℕ). step m (get_or slots (8 * cell + loop.k) 0)) loop.invariant.1.marks
            ∙ each_slot n cell c.requires.slots c.requires.cell_bound.0 step (marks_of n c.set_marked.new.marks) loop.k (omega arith);
      },
    )

pub mark_cell-returns : goal.mark_cell-returns
mark_cell-returns t c =
    let cell = c.args.cell.0 in
    let slots = c.args.slots.now in
    let n = cells_of slots in
    let loop = c.loop-k in
    let set = c.set_marked.ensures n c.requires.words_for c.requires.cell_bound.0 in
    let step : List ℕ → ℕ → List ℕ = mark_slot (c.args.depth - 1) slots in
    record {
      fits = loop.invariant.1.fits;
      marks = loop.invariant.1.marks
          ∙ each_slots n cell c.requires.slots c.requires.cell_bound.0 step (marks_of n c.set_marked.new.marks) loop.k (omega arith)
          ∙ ap (λ (m : List ℕ). each step m (slots_of slots cell)) set.marks
          ∙ sym (cell_deep slots (marks_of n c.args.marks.now) cell c.args.depth (λ e. omega arith));
    }

pub mark_slot-note-requires : goal.mark_slot-note-requires
mark_slot-note-requires t c =
    let at = 8 * c.index.result + c.index-2.result in
    let n = cells_of c.args.slots.now in
    let asked = c.to_mark.ensures n (c.requires.slots.within at) in
    let named = mark_named (marks_of n c.args.marks.now) (get_or c.args.slots.now at 0) (sym asked ∙ c.if-to_mark.true) in
    (named.0, omega (arith, c.requires.slots.within at, c.requires.words_for.room))

pub mark_slot-returns-then-depth-eq0 : goal.mark_slot-returns-then-depth-eq0
mark_slot-returns-then-depth-eq0 t c =
    let slots = c.args.slots.now in
    let n = cells_of slots in
    let m = marks_of n c.args.marks.now in
    let depth = c.args.depth in
    let at = 8 * c.index.result + c.index-2.result in
    let reference = get_or slots at 0 in
    let at_slot : at ≡ 8 * c.args.cell.0 + c.args.slot.0 = omega arith in
    let asked = c.to_mark.ensures n (c.requires.slots.within at) in
    let named = mark_named m reference (sym asked ∙ c.if-to_mark.true) in
    let noted = c.note.ensures n c.requires.words_for (omega (arith, c.requires.slots.within at, named.0)) named.1 in
    record {
      fits = noted.fits;
      marks = noted.marks
          ∙ sym (cell_noted slots m (reference - 1) depth c.if-depth-eq0.true)
          ∙ sym (slot_cell slots m depth reference asked c.if-to_mark.true)
          ∙ ap (λ (i : ℕ). mark_slot depth slots m (get_or slots i 0)) at_slot;
    }

pub mark_slot-overflow_sub-reference : goal.mark_slot-overflow_sub-reference
mark_slot-overflow_sub-reference t c =
    let at = 8 * c.index.result + c.index-2.result in
    let n = cells_of c.args.slots.now in
    let asked = c.to_mark.ensures n (c.requires.slots.within at) in
    let named = mark_named (marks_of n c.args.marks.now) (get_or c.args.slots.now at 0) (sym asked ∙ c.if-to_mark.true) in
    omega arith

pub mark_slot-mark_cell-requires : goal.mark_slot-mark_cell-requires
mark_slot-mark_cell-requires t c =
    let is = c.in-Some.ensures in
    (omega arith, (c.requires.slots, (c.requires.words_for, (omega arith, omega arith))))

pub mark_slot-returns-in-Some : goal.mark_slot-returns-in-Some
mark_slot-returns-in-Some t c =
    let slots = c.args.slots.now in
    let n = cells_of slots in
    let m = marks_of n c.args.marks.now in
    let depth = c.args.depth in
    let at = 8 * c.index.result + c.index-2.result in
    let reference = get_or slots at 0 in
    let at_slot : at ≡ 8 * c.args.cell.0 + c.args.slot.0 = omega arith in
    let is = c.in-Some.ensures in
    let asked = c.to_mark.ensures n (c.requires.slots.within at) in
    record {
      fits = c.mark_cell.ensures.fits;
      marks = c.mark_cell.ensures.marks ∙ ap (mark_cell depth slots m) is.0
          ∙ sym (slot_cell slots m depth reference asked c.if-to_mark.true)
          ∙ ap (λ (i : ℕ). mark_slot depth slots m (get_or slots i 0)) at_slot;
    }

pub mark_slot-returns-else-to_mark : goal.mark_slot-returns-else-to_mark
mark_slot-returns-else-to_mark t c =
    let slots = c.args.slots.now in
    let n = cells_of slots in
    let m = marks_of n c.args.marks.now in
    let depth = c.args.depth in
    let at = 8 * c.index.result + c.index-2.result in
    let reference = get_or slots at 0 in
    let at_slot : at ≡ 8 * c.args.cell.0 + c.args.slot.0 = omega arith in
    record {
      fits = c.requires.words_for;
      marks = sym (slot_none slots m depth reference (c.to_mark.ensures n (c.requires.slots.within at)) c.if-to_mark.false)
          ∙ ap (λ (i : ℕ). mark_slot depth slots m (get_or slots i 0)) at_slot;
    }
