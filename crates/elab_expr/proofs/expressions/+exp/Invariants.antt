use Rattle.std.proofs.Common.{◌≡◌, map, take, drop}
use Rattle.elab_plain.specs.vl_flat.specs.Surface as x
use Rattle.vl_design.specs.Seen.{exp_of}
use Rattle.elab_plain.specs.Seen.{selects_before, args_before}
use Rattle.elab_constant.specs.Seen.{seen_scope}
use Rattle.elab_constant.specs.Types.{numbers}
use Rattle.elab_plain.specs.vl_flat.specs.Expressions as flat
use Rattle.elab_expr.specs.Listed as n
use Rattle.elab_expr.proofs.expressions.+exp.Given as goal

abbrev pub invariant-exps-loop-e : goal.invariant-exps-loop-e
invariant-exps-loop-e l = map exp_of l.all.items ≡ map (n.seen_exp (seen_scope l.scope)) (take l.e-index l.es)

abbrev pub invariant-selected-loop-one : goal.invariant-selected-loop-one
invariant-selected-loop-one l =
    n.selected (seen_scope l.scope) l.at (numbers l.all.range) (exp_of l.all.base) (selects_before (drop l.one-index l.selects) x.NoSelects)
    ≡ n.selected (seen_scope l.scope) l.at (numbers l.initial.all.range) (exp_of l.initial.all.base) (selects_before l.selects x.NoSelects)

abbrev pub invariant-arguments-loop-a : goal.invariant-arguments-loop-a
invariant-arguments-loop-a l = (o : x.Args) → n.args_with l.all.items (flat.args (seen_scope l.scope) l.keeps o) ≡ flat.args (seen_scope l.scope) l.keeps (args_before (take l.a-index l.given) o)
