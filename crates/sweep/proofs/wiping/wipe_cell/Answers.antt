-- `sweep::wiping::wipe_cell` meets its contract. Assumes nothing.
use Rattle.sweep.proofs.Wipes.{freed_one}
use Rattle.sweep.proofs.wiping.wipe_cell.Goals as goal

pub returns-clause-freed : goal.returns-clause-freed
returns-clause-freed c =
    freed_one c.args.cell.0 c.free_cell.ensures.freed (λ room. c.list_cell.ensures (c.requires.lists.asked room))
    c.requires.end_le_cell.0 c.requires.cell_in_bounds
