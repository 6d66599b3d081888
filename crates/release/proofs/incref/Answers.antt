-- `release::incref` meets its contract. Assumes nothing.
use native.Mathlib.Omega.{arith}
use Rattle.rules.specs.Release.{raise}
use Rattle.release.proofs.Writing.{names_cell, raised_at}
use Rattle.release.proofs.incref.Goals as goal

pub returns-then-r-eq0 : goal.returns-then-r-eq0
unfolding raise
returns-then-r-eq0 c = rw c.if-r-eq0.true

pub bounds-count-c : goal.bounds-count-c
bounds-count-c c = (c.requires.range _ (names_cell (c.if-r-eq0.false)))

pub overflow_add-count : goal.overflow_add-count
overflow_add-count c = omega (arith, (c.requires.fits16 _ (names_cell (c.if-r-eq0.false))))

pub bounds-count-c-2 : goal.bounds-count-c-2
bounds-count-c-2 c = (c.requires.range _ (names_cell (c.if-r-eq0.false)))

pub returns : goal.returns
returns c = raised_at _ _ c.if-r-eq0.false
