use Rattle.std.proofs.Common.{take}
use Rattle.std.specs.List.{list_any}
use Rattle.std.specs.Str.{bytes_eq}
use Rattle.elab_kinds.specs.Names.{nothing, Adds}
use Rattle.elab_kinds.proofs.items.add_identifiers.Given as goal

abbrev pub invariant-loop-n : goal.invariant-loop-n
invariant-loop-n l = Adds l.initial.names l.names nothing (λ t. list_any (λ n. bytes_eq t n.name) (take l.n-index l.identifiers))
