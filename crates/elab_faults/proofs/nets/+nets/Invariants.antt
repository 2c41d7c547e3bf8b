use Rattle.std.proofs.Common.{◌≡◌, map, drop}
use Rattle.std.specs.Prelude.{◌&&◌}
use Rattle.elab_plain.specs.vl_flat.specs.Connections.{all_nets}
use Rattle.elab_plain.specs.Seen.{seen}
use Rattle.elab_plain.specs.Listed.{of_list}
use Rattle.elab_constant.specs.Seen.{seen_scope}
use Rattle.elab_faults.proofs.nets.+nets.Given as goal

abbrev pub invariant-all_nets-loop-e : goal.invariant-all_nets-loop-e
invariant-all_nets-loop-e l = (l.all && all_nets (seen_scope l.scope).names (of_list (map seen (drop l.e-index l.es)))) ≡ all_nets (seen_scope l.scope).names (of_list (map seen l.es))
