-- `steps::names_call` meets its contract: what is named by four numbers is a call. Assumes nothing.
use mathlib.Core.Path.{◌≡◌, refl, ap, ◌∙◌}
use Rattle.std.specs.Prelude.{Option, Some, None}
use Rattle.std.specs.Option.{is_some}
use Rattle.rules.specs.Asked.{is_call}
use Rattle.steps.specs.Call.{asked}
use Rattle.steps.specs.declared.call.Call.{Call}
use Rattle.steps.specs.declared.call.Call.TheVariants as Is
use Rattle.steps.proofs.names_call.Goals as goal

named : (o : Option Call) → is_some o ≡ is_call (asked o)
unfolding is_call
named (Some (Is.New root kind finalizer)) = refl
named (Some (Is.Clear root)) = refl
named (Some (Is.Copy to from)) = refl
named (Some (Is.Load to object slot)) = refl
named (Some (Is.Store object slot from)) = refl
named (Some Is.Collect) = refl
named (Some (Is.Start root)) = refl
named (Some Is.Finish) = refl
named None = refl

pub returns : goal.returns
returns c = c.is_some.ensures ∙ named c.of.result ∙ ap is_call c.of.ensures
