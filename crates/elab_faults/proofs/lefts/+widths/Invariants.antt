use Rattle.std.proofs.Common.{◌≡◌, ◌+◌, ◌≤◌, min, map, drop}
use Rattle.elab_plain.specs.vl_flat.specs.Targets.{lefts_width}
use Rattle.elab_plain.specs.SeenStatements.{seen_left, lefts_of}
use Rattle.elab_constant.specs.Seen.{seen_scope}
use Rattle.elab_faults.proofs.lefts.+widths.Given as goal

abbrev pub invariant-lefts_width-loop-l : goal.invariant-lefts_width-loop-l
invariant-lefts_width-loop-l l = record {
  narrow : l.total ≤ 129;
  rest : min 129 (l.total + lefts_width (seen_scope l.scope) (lefts_of (map seen_left (drop l.l-index l.ls)))) ≡ min 129 (lefts_width (seen_scope l.scope) (lefts_of (map seen_left l.ls)));
}
