use Rattle.std.proofs.Common.{◌≡◌, flat_map, take}
use Rattle.std.specs.Option.{option_to_list}
use Rattle.vl_names.specs.Seen as seen
use Rattle.vl_names.proofs.numbers.steps.Given as goal

abbrev pub invariant-loop-instance : goal.invariant-loop-instance
invariant-loop-instance l = l.steps.items ≡ flat_map (λ u. option_to_list (seen.look l.numbers u.definition.name)) (seen.nows (take l.instance-index l.instances))
