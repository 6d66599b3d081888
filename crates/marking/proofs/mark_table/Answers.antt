-- `marking::mark_table` meets its contract: what the first entries name is marked. Assumes nothing.
use native.Mathlib.Omega.{arith}
use mathlib.Core.Path.{sym, ap, ◌∙◌}
use mathlib.Core.List.{List}
use Prim.Native.Nat.{ℕ}
use lib.ListN.{get_or}
use lib.Seq.{take_all}
use Rattle.rules.specs.Depth.{each, mark_slot, mark_table}
use Rattle.rules.specs.Words.{marks_of}
use Rattle.laws.specs.Marking.Steps.{each_none, each_take}
use Rattle.marking.specs.Steps.{cells_of}
use Rattle.marking.proofs.mark_table.Goals as goal

pub loop-reference-init : goal.loop-reference-init
loop-reference-init c =
    let slots = c.args.slots.now in
    let m = marks_of (cells_of slots) c.args.marks.now in
    record { fits = c.requires.words_for; marks = each_none (mark_slot 16 slots) m c.args.table.now }

pub mark_reference-requires-clause-words_for : goal.mark_reference-requires-clause-words_for
mark_reference-requires-clause-words_for c =
    c.loop-reference.invariant.fits

pub loop-reference-preserved : goal.loop-reference-preserved
loop-reference-preserved c =
    let loop = c.loop-reference in
    let slots = c.args.slots.now in
    let table = c.args.table.now in
    let step = mark_slot 16 slots in
    let s = c.mark_reference in
    record {
      fits = s.ensures.fits;
      marks = s.ensures.marks ∙ ap (λ (m : List ℕ). step m (get_or table loop.reference-index 0)) loop.invariant.marks
          ∙ sym (each_take step table (marks_of (cells_of slots) c.args.marks.now) loop.reference-index (omega arith));
    }

pub returns : goal.returns
unfolding mark_table
returns c =
    let loop = c.loop-reference in
    let slots = c.args.slots.now in
    let all = take_all loop.reference-index c.args.table.now (omega arith) in
    record {
      fits = loop.invariant.fits;
      marks = loop.invariant.marks ∙ ap (each (mark_slot 16 slots) (marks_of (cells_of slots) c.args.marks.now)) all;
    }
