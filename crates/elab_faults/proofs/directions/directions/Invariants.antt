use Rattle.std.proofs.Common.{◌≡◌, drop}
use Rattle.std.specs.Prelude.{flat_map}
use Rattle.elab_plain.specs.vl_flat.specs.Surface as x
use Rattle.vl_design.specs.Stops.{earliest}
use Rattle.elab_plain.specs.vl_flat.specs.Expressions.{steps}
use Rattle.elab_plain.specs.vl_flat.specs.ExpressionFaults.{direction}
use Rattle.elab_plain.specs.Seen.{selects_before}
use Rattle.elab_constant.specs.Seen.{seen_scope}
use Rattle.elab_constant.specs.Types.{numbers}
use Rattle.elab_faults.proofs.directions.directions.Given as goal

abbrev pub invariant-loop-one : goal.invariant-loop-one
invariant-loop-one l =
    earliest l.all.best (flat_map (direction (seen_scope l.scope) l.at) (steps (seen_scope l.scope) l.all.memory (numbers l.all.range) (selects_before (drop l.one-index l.selects) x.NoSelects)))
    ≡ earliest l.initial.all.best (flat_map (direction (seen_scope l.scope) l.at) (steps (seen_scope l.scope) l.initial.all.memory (numbers l.initial.all.range) (selects_before l.selects x.NoSelects)))
