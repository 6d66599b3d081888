-- `release::decref_shared` meets its contract: each way through it is one case of the rules' step. Assumes nothing.
use native.Mathlib.Omega.{arith}
use Rattle.release.proofs.Step.{shared_none, shared_many, shared_last}
use Rattle.release.proofs.Writing.{names_cell}
use Rattle.release.proofs.decref_shared.Goals as goal

pub returns-then-r-eq0 : goal.returns-then-r-eq0
returns-then-r-eq0 c =
    let if1 = c.if-r-eq0 in
    shared_none if1.true

pub bounds-count-c : goal.bounds-count-c
bounds-count-c c =
    let if1 = c.if-r-eq0 in
    omega (arith, c.requires.range _ (names_cell if1.false))

pub bounds-count-c-then-n-gt1 : goal.bounds-count-c-then-n-gt1
bounds-count-c-then-n-gt1 c =
    let if1 = c.if-r-eq0 in
    omega (arith, c.requires.range _ (names_cell if1.false))

pub returns-then-n-gt1 : goal.returns-then-n-gt1
returns-then-n-gt1 c =
    let if1 = c.if-r-eq0 in
    let if2 = c.if-n-gt1 in
    shared_many if1.false (omega (arith, if2.true)) (omega arith) (omega arith)

pub returns : goal.returns
returns c =
    let if1 = c.if-r-eq0 in
    let if2 = c.if-n-gt1 in
    shared_last if1.false (omega (arith, if2.false))
