use Rattle.std.proofs.Common.{◌≡◌, map, take}
use Rattle.vl_design.specs.Seen.{exp_of}
use Rattle.elab_constant.specs.Seen.{seen_scope}
use Rattle.elab_expr.specs.Walked as n
use Rattle.elab_expr.proofs.labels.labels.Given as goal

abbrev pub invariant-loop-e : goal.invariant-loop-e
invariant-loop-e l = map exp_of l.all.items ≡ map (n.seen_label (seen_scope l.scope) l.wild) (take l.e-index l.es)
