use Rattle.std.proofs.Common.{◌≡◌, drop}
use Rattle.elab_plain.specs.vl_flat.specs.Surface as x
use Rattle.vl_design.specs.Stops.{earliest}
use Rattle.elab_plain.specs.vl_flat.specs.ExpressionFaults.{display_faults}
use Rattle.elab_plain.specs.Seen.{args_before}
use Rattle.elab_constant.specs.Seen.{seen_scope}
use Rattle.elab_faults.proofs.displays.display_faults.Given as goal

abbrev pub invariant-loop-a : goal.invariant-loop-a
invariant-loop-a l =
    earliest l.all.best (display_faults (seen_scope l.scope) l.all.taken (args_before (drop l.a-index l.given) x.NoArgs))
    ≡ earliest l.initial.all.best (display_faults (seen_scope l.scope) l.initial.all.taken (args_before l.given x.NoArgs))
