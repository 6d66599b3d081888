-- `sweep::rescuing::rescue_marked` meets its contract: none while cells were waiting; else the cells below `c` that are rescued have flags 1. Assumes nothing.
use native.Mathlib.Omega.{arith}
use mathlib.Core.Path.{◌≡◌, refl, ◌∙◌}
use lib.ListN.{length}
use Rattle.rules.specs.Words.{bits_of}
use Rattle.sweep.specs.Phases.{is_rescued}
use Rattle.sweep.proofs.Rescues.{rescued_start, rescued_next, decided_none, decided_all}
use Rattle.sweep.proofs.rescuing.rescue_marked.Goals as goal

pub returns-then-waiting-ne0 : goal.returns-then-waiting-ne0
returns-then-waiting-ne0 c =
    decided_none c.args.flags.now (bits_of (length c.args.flags.now) c.args.marked.now) c.args.waiting (λ z. omega arith)

pub loop-c-init : goal.loop-c-init
loop-c-init c =
    (omega arith, refl, rescued_start (is_rescued c.args.flags.now (bits_of (length c.args.flags.now) c.args.marked.now)))

pub loop-c-preserved : goal.loop-c-preserved
loop-c-preserved c =
    let of = c.of in
    let loop = c.loop-c in
    let rescue-cell = c.rescue_cell in
    let is = c.in-Some.ensures in
    let here : c.in-Some.cell.0 ≡ loop.c = omega arith in (
      omega arith,
      rescue-cell.auto.flags ∙ loop.invariant.1,
      rescued_next (bits_of (length c.args.flags.now) c.args.marked.now) loop.c (omega arith) loop.invariant.2
          (rw (here, loop.invariant.1) at rescue-cell.ensures),
    )

pub returns : goal.returns
returns c =
    let loop = c.loop-c in
    let all : loop.c ≡ length c.args.flags.now = omega arith in
    decided_all c.args.waiting (omega arith) (rw all at loop.invariant.2)
