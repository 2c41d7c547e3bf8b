use Rattle.std.proofs.Common.{◌≡◌, ◌+◌, ◌≤◌, min, map, drop}
use Rattle.elab_plain.specs.vl_flat.specs.Targets.{lefts_width}
use Rattle.elab_plain.specs.vl_flat.specs.Connections.{lefts_of}
use Rattle.elab_plain.specs.Seen.{seen}
use Rattle.elab_plain.specs.Listed.{of_list}
use Rattle.elab_constant.specs.Seen.{seen_scope}
use Rattle.elab_faults.proofs.outputs.+widths.Given as goal

abbrev pub invariant-widths_as_lefts-loop-e : goal.invariant-widths_as_lefts-loop-e
invariant-widths_as_lefts-loop-e l = record {
  narrow : l.total ≤ 129;
  rest : min 129 (l.total + lefts_width (seen_scope l.scope) (lefts_of (of_list (map seen (drop l.e-index l.es))))) ≡ min 129 (lefts_width (seen_scope l.scope) (lefts_of (of_list (map seen l.es))));
}
