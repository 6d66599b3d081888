-- What the program writes. Assumes nothing.
use mathlib.Core.Path.{ap}
use mathlib.Core.List.{◌++◌}
use Rattle.session.specs.Program.{at_start, header, output, WritesOutput}
use Rattle.session.proofs.Delivery.{any_deliveries}

pub writes_output : WritesOutput
unfolding output
writes_output input w m d = ap (λ x. header ++ x) (any_deliveries at_start m input w d).written
