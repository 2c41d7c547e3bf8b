use Rattle.std.proofs.Common.{◌≡◌, map, take}
use Rattle.vl_design.specs.Seen.{target_of}
use Rattle.elab_constant.specs.Seen.{seen_scope}
use Rattle.elab_expr.specs.Walked as n
use Rattle.elab_expr.proofs.targets.+output_target.Given as goal

abbrev pub invariant-output_targets-loop-e : goal.invariant-output_targets-loop-e
invariant-output_targets-loop-e l = map target_of l.all.items ≡ map (n.seen_output (seen_scope l.scope)) (take l.e-index l.es)
