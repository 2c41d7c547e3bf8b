use Rattle.std.proofs.Common.{◌≡◌, ◌∙◌, [], IfOk, ap, subst, arith}
use Rattle.vl_scope.specs.Declarations as scope
use Rattle.vl_scope.specs.Faults.{earliest}
use Rattle.vl_uses.specs.Nodes as n
use Rattle.vl_uses.specs.Walks as w
use Rattle.vl_uses.proofs.Sites.{scoped-known, module-walk}
use Rattle.vl_uses.proofs.faults.note_module_uses.Goals as goal

pub header_parameters-parameters-requires : goal.header_parameters-parameters-requires
header_parameters-parameters-requires c = omega (arith, c.requires)

pub note_items-requires : goal.note_items-requires
note_items-requires c =
    let same = ap n.items_parameters c.as_slice.ensures in
    omega (arith, c.requires, same, c.header_parameters-parameters.ensures)

pub returns : goal.returns
returns c = λ outer none.
    let m = c.args.tree.now in
    let best = c.args.best in
    let ds = scope.declarations m in
    let header = c.note_header-best.ensures ∙ ap (λ a. earliest best (w.faults a (n.header_nodes m))) (scoped-known c.args.outer.now c.args.none.now c.args.none.now ds [] outer none none) in
    subst (λ whole. IfOk c.note_items.result (λ b. b ≡ whole)) (module-walk m _ _ best _ c.header_parameters-parameters.ensures c.as_slice.ensures header) (c.note_items.ensures ds outer none)
