-- `sweep::rescuing::rescue_marked` meets its contract: none while cells were waiting; else the cells below `c` that are rescued have flags 1. Assumes nothing.
use Prim.Native.Nat.{◌≤◌}
use mathlib.Core.Path.{◌≡◌}
use lib.ListN.{length}
use Rattle.rules.specs.Lists.{select}
use Rattle.rules.specs.Words.{bits_of}
use Rattle.sweep.specs.Phases.{is_rescued, Restored}
use Rattle.sweep.proofs.rescuing.rescue_marked.Given as goal

abbrev pub invariant-loop-c : goal.invariant-loop-c
invariant-loop-c l =
    (l.c ≤ length l.initial.flags) × (length l.flags ≡ length l.initial.flags) × Restored l.initial.flags (select (is_rescued l.initial.flags (bits_of (length l.initial.flags) l.marked)) l.c) l.flags
