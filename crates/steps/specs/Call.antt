-- The calls of the code are those of the rules.
-- Assumes nothing: these are definitions.
use Rattle.std.specs.Prelude.{Option, Some, None}
use Rattle.rules.specs.Asked.{Asked}
use Rattle.rules.specs.Asked.Asked.{call, LINE}
use Rattle.rules.specs.Refusals.Call.{NEW, CLEAR, COPY, LOAD, STORE, COLLECT, START, FINISH}
use Rattle.steps.specs.declared.call.Call.{Call}
use Rattle.steps.specs.declared.call.Call.TheVariants as Is

-- what is asked for by a call, or by none
abbrev pub asked : Option Call → Asked
asked (Some (Is.New root kind finalizer)) = call (NEW root kind finalizer)
asked (Some (Is.Clear root)) = call (CLEAR root)
asked (Some (Is.Copy to from)) = call (COPY to from)
asked (Some (Is.Load to object slot)) = call (LOAD to object slot)
asked (Some (Is.Store object slot from)) = call (STORE object slot from)
asked (Some Is.Collect) = call COLLECT
asked (Some (Is.Start root)) = call (START root)
asked (Some Is.Finish) = call FINISH
asked None = LINE
