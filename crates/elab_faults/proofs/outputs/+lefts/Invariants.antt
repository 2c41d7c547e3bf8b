use Rattle.std.proofs.Common.{◌≡◌, map, drop}
use Rattle.vl_design.specs.Stops.{earliest}
use Rattle.elab_plain.specs.vl_flat.specs.Targets.{targets_faults}
use Rattle.elab_plain.specs.vl_flat.specs.Connections.{lefts_of}
use Rattle.elab_plain.specs.Seen.{seen}
use Rattle.elab_plain.specs.Listed.{of_list}
use Rattle.elab_constant.specs.Seen.{seen_scope}
use Rattle.elab_faults.proofs.outputs.+lefts.Given as goal

abbrev pub invariant-faults_as_lefts-loop-e : goal.invariant-faults_as_lefts-loop-e
invariant-faults_as_lefts-loop-e l =
    earliest l.all (targets_faults (seen_scope l.scope) (lefts_of (of_list (map seen (drop l.e-index l.es))))) ≡ earliest l.initial.all (targets_faults (seen_scope l.scope) (lefts_of (of_list (map seen l.es))))
