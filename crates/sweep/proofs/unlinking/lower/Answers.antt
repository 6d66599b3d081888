-- `sweep::unlinking::lower` meets its contract. Assumes nothing.
use native.Mathlib.Omega.{arith}
use Rattle.sweep.proofs.Lowers.{taken_off_empty, count_above_zero, count_inside, taken_off_one}
use Rattle.sweep.proofs.unlinking.lower.Goals as goal

pub returns-then-reference-eq0 : goal.returns-then-reference-eq0
returns-then-reference-eq0 c = taken_off_empty c.args.reference (omega (arith, c.if-reference-eq0.true))

pub bounds-count-reference : goal.bounds-count-reference
bounds-count-reference c =
    omega (arith, count_inside c.args.reference c.if-reference-eq0.false c.requires)

pub overflow_sub-count-2 : goal.overflow_sub-count-2
overflow_sub-count-2 c =
    omega (arith, count_above_zero c.args.reference c.if-reference-eq0.false c.requires)

pub bounds-count-reference-2 : goal.bounds-count-reference-2
bounds-count-reference-2 c =
    omega (arith, count_inside c.args.reference c.if-reference-eq0.false c.requires)

pub returns : goal.returns
returns c =
    let if1 = c.if-reference-eq0 in
    taken_off_one c.args.reference if1.false c.requires _ (omega (arith, count_above_zero c.args.reference if1.false c.requires))
