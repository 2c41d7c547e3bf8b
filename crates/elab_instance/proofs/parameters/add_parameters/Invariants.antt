use Rattle.std.proofs.Common.{◌≡◌, map, take}
use Rattle.std.specs.Prelude.{fold}
use Rattle.elab_plain.specs.SeenItems.{seen_parameter, seen_type}
use Rattle.elab_constant.specs.Seen.{look}
use Rattle.elab_instance.specs.Given.{overrides_of}
use Rattle.elab_instance.specs.Known.{with_parameter}
use Rattle.elab_instance.proofs.parameters.add_parameters.Given as goal

abbrev pub invariant-loop-parameter : goal.invariant-loop-parameter
invariant-loop-parameter l = look l.names ≡ fold (with_parameter (overrides_of l.above) (seen_type l.kind)) (look l.initial.names) (map seen_parameter (take l.parameter-index l.parameters))
