use Rattle.std.proofs.Common.{◌≡◌, map, take}
use Rattle.vl_design.specs.Seen.{target_of}
use Rattle.elab_constant.specs.Seen.{seen_scope}
use Rattle.elab_expr.specs.Walked as n
use Rattle.elab_expr.proofs.targets.+target.Given as goal

abbrev pub invariant-targets-loop-l : goal.invariant-targets-loop-l
invariant-targets-loop-l l = map target_of l.all.items ≡ map (n.seen_target (seen_scope l.scope)) (take l.l-index l.ls)
