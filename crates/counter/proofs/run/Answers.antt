use Rattle.std.proofs.Common.{arith}
use Rattle.rules.specs.Heap.{fresh}
use Rattle.counter.proofs.Running.{running_begin, running_further, running_over}
use Rattle.counter.proofs.run.Goals as goal

pub loop-init : goal.loop-init
unfolding fresh
loop-init g c = record { room = omega arith; running = rw c.start-reader.ensures (running_begin _ _) }

pub loop-preserved : goal.loop-preserved
loop-preserved g c = record {
  room = omega arith;
  running = running_further _ _ _ _ _ _ _ _ _ _ _ _ c.loop.invariant.running c.in_ok-next.ensures.told c.in-Some.is;
}

pub returns-in_default : goal.returns-in_default
returns-in_default g c = running_over _ _ _ _ _ _ _ _ _ _ _ c.loop.invariant.running c.in_ok-next.ensures.told c.in_default.is
