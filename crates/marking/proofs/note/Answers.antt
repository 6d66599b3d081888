-- `marking::note` meets its contract. Assumes nothing.
use Prim.Native.Nat.{◌-◌}
use Rattle.laws.specs.Words.Setting.{has_noted}
use Rattle.marking.proofs.note.Goals as goal

pub returns : goal.returns
returns c =
    λ n w h f. has_noted n c.args.marks.now (c.args.reference - 1) w h f
