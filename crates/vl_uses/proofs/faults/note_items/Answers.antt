use Rattle.std.proofs.Common.{◌∙◌, ◌≤◌, length, sym, ap, arith}
use Rattle.std.specs.List.{flat_map}
use Rattle.std.proofs.lemmas.Grind.{common_steps}
use Rattle.vl_scope.specs.Faults.{earliest}
use Rattle.vl_uses.specs.UseFaults.{site_faults}
use Rattle.vl_uses.proofs.Sites.{items-walk, items-end}
use Rattle.vl_uses.proofs.faults.note_items.Goals as goal

pub loop-item-preserved : goal.loop-item-preserved
loop-item-preserved c = record {
  known = grind (arith, common_steps);
  rest = λ as' outer none. items-walk as' c.loop-item.parameters c.item_parameters-parameters.result c.args.items.now c.loop-item.item-index c.item-item.result c.loop-item.best c.in_ok-best.best _ (omega arith) c.item-item.is c.item_parameters-parameters.ensures
      (c.in_ok-best.ensures as' outer none) (c.loop-item.invariant.rest as' outer none);
}

pub returns : goal.returns
returns c = λ as' outer none.
    let all : length c.args.items.now ≤ c.loop-item.item-index = omega arith in
    ap (λ l. earliest c.loop-item.best (flat_map (site_faults as') l)) (sym (items-end c.loop-item.parameters c.args.items.now c.loop-item.item-index all)) ∙ c.loop-item.invariant.rest as' outer none
