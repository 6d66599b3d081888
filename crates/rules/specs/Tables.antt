-- The seven lent tables as the code holds them: the heap that they are, and that a function gives each of them back where it was.
-- Assumes nothing: these are definitions.
use Rattle.std.specs.Prelude.{◌≡◌}
use Rattle.rules.specs.declared.tables.Tables.{Tables}
use Rattle.rules.specs.declared.tables.TablesMut.{TablesMut}
use Rattle.rules.specs.Heap.{Heap, tables}

-- the heap, to be read
abbrev pub heap_of : Tables → Heap
heap_of t = tables t.kind.now t.flags.now t.count.now t.slots.now t.roots.now t.queue.now t.control.now

-- the heap, to be written
abbrev pub lent : TablesMut → Heap
lent t = tables t.kind.now t.flags.now t.count.now t.slots.now t.roots.now t.queue.now t.control.now

-- each is the table that was lent, whatever it holds
abbrev pub SameTables : TablesMut → TablesMut → Type 0
SameTables t u =
    (u.kind.ghost_name ≡ t.kind.ghost_name) × (u.flags.ghost_name ≡ t.flags.ghost_name) × (u.count.ghost_name ≡ t.count.ghost_name)
    × (u.slots.ghost_name ≡ t.slots.ghost_name) × (u.roots.ghost_name ≡ t.roots.ghost_name) × (u.queue.ghost_name ≡ t.queue.ghost_name)
    × (u.control.ghost_name ≡ t.control.ghost_name)
