use Rattle.std.proofs.Common.{take}
use Rattle.std.specs.List.{list_any}
use Rattle.std.specs.Str.{bytes_eq}
use Rattle.elab_kinds.specs.Names.{has, Adds}
use Rattle.elab_kinds.proofs.items.add_events.Given as goal

abbrev pub invariant-loop-e : goal.invariant-loop-e
invariant-loop-e l = Adds l.initial.names l.names (has l.hidden) (λ t. list_any (λ e. bytes_eq t e.name.name) (take l.e-index l.events))
