use Rattle.std.proofs.Common.{◌≡◌, map, drop}
use Rattle.vl_design.specs.Stops.{earliest}
use Rattle.elab_plain.specs.vl_flat.specs.Targets.{targets_faults}
use Rattle.elab_plain.specs.SeenStatements.{seen_left, lefts_of}
use Rattle.elab_constant.specs.Seen.{seen_scope}
use Rattle.elab_faults.proofs.lefts.+lefts.Given as goal

abbrev pub invariant-targets_faults-loop-l : goal.invariant-targets_faults-loop-l
invariant-targets_faults-loop-l l =
    earliest l.all (targets_faults (seen_scope l.scope) (lefts_of (map seen_left (drop l.l-index l.ls)))) ≡ earliest l.initial.all (targets_faults (seen_scope l.scope) (lefts_of (map seen_left l.ls)))
