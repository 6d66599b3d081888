-- `marking::next_noted` meets its contract. Assumes nothing.
use native.Mathlib.Omega.{arith}
use mathlib.Core.Path.{◌≡◌, sym, ap, ◌∙◌}
use lib.ListN.{length}
use Rattle.rules.specs.Depth.{noted_between, next_noted}
use Rattle.rules.specs.Words.{marks_of}
use Rattle.laws.specs.Marking.Scan.{noted_law, next_after, next_round}
use Rattle.laws.specs.Words.Marks.{length_marks}
use Rattle.marking.proofs.Noted.{noted_first}
use Rattle.marking.proofs.next_noted.Goals as goal
use Rattle.std.proofs.Common.{Some, None}

pub returns-in-Some : goal.returns-in-Some
returns-in-Some c =
    let n = c.args.cells in
    let from = c.args.from.0 in
    let m = marks_of n c.args.marks.now in
    let halves = c.split_at.ensures in
    let left = rw (halves.front, halves.back) at c.open_from.ensures in
    let is = noted_first n from c.args.marks.now (omega (arith, c.requires.from_lt_cells)) left c.next.new.self (Some c.in-Some.cell) c.in-Some.ensures.steps in
    let size = length_marks n c.args.marks.now in
    let after : noted_between m from n ≡ next_noted m from =
    ap (noted_between m from) (sym size) ∙ next_after m (noted_law m from (length m) (omega (arith, c.requires.from_lt_cells))) (omega (arith, ap (noted_between m from) size)) in
    (is.0 ∙ after, omega arith)

pub returns : goal.returns
returns c =
    let n = c.args.cells in
    let from = c.args.from.0 in
    let m = marks_of n c.args.marks.now in
    let halves = c.split_at.ensures in
    let left = rw (halves.front, halves.back) at c.open_from.ensures in
    let none = noted_first n from c.args.marks.now (omega (arith, c.requires.from_lt_cells)) left c.next.new.self None c.in_default.ensures.steps in
    let size = length_marks n c.args.marks.now in
    let round : noted_between m 0 n ≡ next_noted m from =
    ap (noted_between m 0) (sym size) ∙ next_round m from (omega arith) (omega (arith, ap (noted_between m from) size)) in
    rw round at c.first_noted.ensures
