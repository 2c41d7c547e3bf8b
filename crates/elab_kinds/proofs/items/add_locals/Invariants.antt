use Rattle.std.proofs.Common.{take}
use Rattle.std.specs.List.{list_any}
use Rattle.std.specs.Str.{bytes_eq}
use Rattle.elab_kinds.specs.Names.{nothing, Adds}
use Rattle.elab_kinds.proofs.items.add_locals.Given as goal

abbrev pub invariant-loop-g : goal.invariant-loop-g
invariant-loop-g l = Adds l.initial.names l.names nothing (λ t. list_any (λ g. list_any (λ n. bytes_eq t n.name) g.names.items) (take l.g-index l.groups))
