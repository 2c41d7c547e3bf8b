use Rattle.std.proofs.Common.{◌≡◌, drop}
use Rattle.elab_plain.specs.vl_flat.specs.Surface as x
use Rattle.elab_expr.specs.Walked as n
use Rattle.vl_design.specs.Seen.{target_of}
use Rattle.elab_plain.specs.Seen.{selects_before}
use Rattle.elab_constant.specs.Seen.{seen_scope}
use Rattle.elab_constant.specs.Types.{numbers}
use Rattle.elab_expr.proofs.lefts.selected.Given as goal

abbrev pub invariant-loop-one : goal.invariant-loop-one
invariant-loop-one l =
    n.selected (seen_scope l.scope) l.at (numbers l.all.range) (target_of l.all.base) (selects_before (drop l.one-index l.selects) x.NoSelects)
    ≡ n.selected (seen_scope l.scope) l.at (numbers l.initial.all.range) (target_of l.initial.all.base) (selects_before l.selects x.NoSelects)
