use Rattle.std.proofs.Common.{◌≡◌, ap, ◌∙◌, sym, subst}
use Rattle.std.specs.Prelude.{IfOk, option_map}
use Rattle.elab_plain.specs.vl_flat.specs.Surface as x
use Rattle.vl_design.specs.Placed as p
use Rattle.elab_plain.specs.vl_flat.specs.Scopes.{range_of}
use Rattle.elab_expr.specs.Walked as n
use Rattle.vl_design.specs.Seen.{target_of}
use Rattle.elab_plain.specs.Seen.{selects_before}
use Rattle.elab_constant.specs.Seen.{seen_scope, binding_of}
use Rattle.elab_expr.proofs.Sides.{written-plain}
use Rattle.elab_expr.proofs.lefts.written.Goals as goal

pub returns : goal.returns
returns c =
    let s = seen_scope c.args.scope.now in
    let o = option_map binding_of c.args.known in
    let ss = selects_before c.args.selects.now x.NoSelects in
    let P : p.Target → Type 0 = λ z. IfOk c.selected.result (λ b. target_of b ≡ z) in
    subst P
    (ap (λ r. n.selected s c.args.at r (target_of c.entire-base.result) ss) c.range_of-range.ensures
    ∙ (ap (λ b. n.selected s c.args.at (range_of o) b ss) c.entire-base.ensures
    ∙ sym (written-plain s c.args.at o ss (sym c.is_memory.ensures ∙ c.if-is_memory.false))))
    c.selected.ensures
