-- The room that is left in running totals. Assumes nothing: these are definitions.
use Rattle.std.specs.Prelude.{◌≤◌}
use Rattle.rules.specs.declared.Answer.{Answer}
use Rattle.rules.specs.declared.batch.Totals.{Totals}
pub use Rattle.laws.specs.Calls.Batch.{HasRoom}

-- an answer can be added
abbrev pub CanRaise : Totals → Answer → Type 0
CanRaise t a = HasRoom 1 t × (a.freed ≤ 1024) × (a.queued ≤ 1024)
