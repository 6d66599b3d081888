-- `allocation::zeroing::fresh` meets its contract.
-- Assumes nothing.
use mathlib.Core.Path.{◌∙◌}
use Rattle.laws.specs.Calls.Admission.{tables_eq, fresh_is, fresh_answer}
use Rattle.laws.specs.Calls.Outer.{fresh_done}
use Rattle.allocation.proofs.zeroing.fresh.Goals as goal

pub returns-clause-did : goal.returns-clause-did
returns-clause-did c =
    let zero = c.zero in
    let zero2 = c.zero-2 in
    let zero3 = c.zero-3 in
    let zero4 = c.zero-4 in
    let zero5 = c.zero-5 in
    let zero6 = c.zero-6 in
    fresh_done c.requires
    (tables_eq zero.ensures zero2.ensures zero3.ensures zero4.ensures zero5.ensures zero6.ensures c.zero-7.ensures ∙ fresh_is _ c.requires)
    (c.done.ensures ∙ fresh_answer _)
