-- The scratch tally of a heap that fits.
-- Assumes nothing.
use Prim.Native.Nat.{ℕ, ◌+◌, ◌≤◌, ◌<◌}
use native.Mathlib.Omega.{arith}
use lib.ListN.{take, replicate}
use Rattle.rules.specs.Heap.{Heap, cells, queued, entries}
use Rattle.rules.specs.Sound.{Sized}
use Rattle.laws.specs.Sound.Reflect.{entries-length}
use Rattle.tally.proofs.Scratch.{clear_length, clear_at}
use Rattle.soundness.specs.Tests.{Scratch}

pub scratch : (h : Heap) (k : ℕ) → Sized h → 1024 < k → queued h ≤ cells h
    → Scratch (take (cells h + 1) (replicate k 0)) h.kind h.flags h.count h.slots h.roots (entries h)
scratch h k z l few =
    record {
      most = z.most;
      flags_size = z.flags;
      count_size = z.count;
      slots_size = z.slots;
      roots_size = z.roots;
      few = omega (arith, entries-length h z few);
      tally_size = omega (arith, clear_length (cells h + 1) k (omega (arith, z.most)));
      clear = clear_at (cells h + 1) k;
    }
