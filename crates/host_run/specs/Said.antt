-- Commands, as the code has them (own).
use Rattle.std.specs.Prelude.{◌≤◌, ⊤}
use Rattle.host_run.specs.declared.words.Command.{Command}
use Rattle.host_run.specs.declared.words.Command.TheVariants as said
use Rattle.host_run.specs.Words as w

abbrev pub command_in : Command → w.Command
command_in (said.Run path) = w.Run path.now
command_in (said.Check path) = w.Check path.now
command_in (said.Demo tenants) = w.Demo tenants

-- the demonstration has 1 to 32 tenants
abbrev pub CanBeRun : Command → Type 0
CanBeRun (said.Run path) = ⊤
CanBeRun (said.Check path) = ⊤
CanBeRun (said.Demo tenants) = (1 ≤ tenants) × (tenants ≤ 32)
