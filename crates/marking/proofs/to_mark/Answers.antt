-- `marking::to_mark` meets its contract. Assumes nothing.
use Rattle.rules.specs.Words.{marks_of}
use Rattle.laws.specs.Marking.Steps.{mark_empty}
use Rattle.laws.specs.Words.Marks.{test_reference}
use Rattle.marking.proofs.to_mark.Goals as goal

pub returns-then-reference-eq0 : goal.returns-then-reference-eq0
returns-then-reference-eq0 c =
    let if1 = c.if-reference-eq0 in
    λ n h. mark_empty (marks_of n c.args.marks.now) c.args.reference if1.true

pub returns : goal.returns
returns c =
    let if1 = c.if-reference-eq0 in
    λ n h. test_reference n c.args.marks.now c.args.reference if1.false h c.requires
