-- The demands are not empty: the list of `Example` has a call that frees, a call that queues, and a sweep that frees a loose ring.
-- Assumes nothing.
use Rattle.std.specs.Prelude.{ℕ, List, [], refl, replicate}
use Rattle.std.proofs.Common.{arith, lit≤}
use Rattle.rules.specs.Reach.{Chain, Loose, LooseRing}
use Rattle.rules.specs.Reach.Chain.{root, entry, further}
use Rattle.rules.specs.Reach.LooseChain.{one}
use Rattle.rules.specs.Events.Finds.{here, later}
use Rattle.rules.specs.Witness.{Witness}
use Rattle.laws.specs.Lists.Tables.{get_or-zeros}
use Rattle.laws.specs.Demand.Example.{empty, holding, ring, events, begins, trace}

-- empty roots and an empty queue reach nothing
pub nothing_reached : (slots : List ℕ) (c : ℕ) → ¬ Chain (replicate 64 0) [] slots c
nothing_reached slots c (root i e) = omega (arith, get_or-zeros 64 i)
nothing_reached slots c (entry i e) = omega arith
nothing_reached slots c (further {p} k l) = nothing_reached slots p k

-- cell 0 holds itself, and nothing else does
pub stands_loose : (flags : ℕ) → LooseRing (ring flags)
stands_loose flags =
    let itself : Loose (ring flags) 0 = record { used = lit≤ tt; unreached = nothing_reached _ 0 } in
    record { cell = 0; around = one itself (record { slot = 0; in_cell = lit≤ tt; holds = refl }) itself }

pub witness : Witness
witness = record {
  heap = empty;
  begins = begins;
  cell = 0;
  stood = lit≤ tt;
  calls = events;
  trace = trace;
  frees = record {
    at = record { before = holding; event = _; finds = later (later (later (later here))) };
    cell = 1;
    frees = record { used = lit≤ tt; free = refl };
  };
  queues = record {
    at = record { before = ring 1; event = _; finds = later (later (later (later (later (later (later (later (later here)))))))) };
    queues = lit≤ tt;
  };
  sweeps = record {
    freeing = record {
      at = record { before = ring 3; event = _; finds = later (later (later (later (later (later (later (later (later (later (later (later here))))))))))) };
      cell = 0;
      frees = record { used = lit≤ tt; free = refl };
    };
    completed = record { collects = refl; done = refl };
    ring = stands_loose 3;
  };
}
