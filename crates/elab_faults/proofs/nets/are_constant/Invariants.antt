use Rattle.std.proofs.Common.{◌≡◌, drop}
use Rattle.std.specs.Prelude.{◌&&◌}
use Rattle.elab_plain.specs.vl_flat.specs.Surface as x
use Rattle.elab_plain.specs.vl_flat.specs.Connections.{are_constant}
use Rattle.elab_plain.specs.Seen.{selects_before}
use Rattle.elab_constant.specs.Seen.{seen_scope}
use Rattle.elab_faults.proofs.nets.are_constant.Given as goal

abbrev pub invariant-loop-one : goal.invariant-loop-one
invariant-loop-one l =
    (l.all && are_constant (seen_scope l.scope).names (selects_before (drop l.one-index l.selects) x.NoSelects)) ≡ are_constant (seen_scope l.scope).names (selects_before l.selects x.NoSelects)
