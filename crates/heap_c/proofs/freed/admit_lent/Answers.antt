-- `heap_c::freed::admit_lent` meets its contract. Assumes nothing.
use native.Mathlib.Omega.{arith}
use mathlib.Core.Path.{sym, ◌∙◌}
use Rattle.laws.specs.Calls.Outer.{admission_misfit, admission_fit}
use Rattle.heap_c.proofs.freed.admit_lent.Goals as goal

pub returns-then-freed-tables : goal.returns-then-freed-tables
returns-then-freed-tables c = sym (admission_misfit _ _ (λ e. omega (arith, c.if-freed-tables.true)))

pub returns : goal.returns
returns c = c.admit.ensures ∙ sym (admission_fit _ _ (omega (arith, c.if-freed-tables.false)))
