use Rattle.std.proofs.Common.{ap, sym, ◌∙◌, map, take, arith}
use Rattle.elab_plain.specs.vl_flat.specs.Environments as e
use Rattle.elab_plain.specs.SeenItems.{seen_item}
use Rattle.elab_kinds.specs.Sized.{counts_of, kept, told, items_counts}
use Rattle.elab_kinds.proofs.Keeping.{counts-same, items-more, kept-more}
use Rattle.elab_kinds.proofs.sizes.items_counts.Goals as goal

pub loop-item-init : goal.loop-item-init
loop-item-init c = counts-same _ _ (omega arith) (omega arith)

pub loop-item-preserved : goal.loop-item-preserved
loop-item-preserved c =
    let sizes = told c.args.index.now c.args.round.now in
    let first = counts_of c.args.first in
    let items = c.args.items.now in
    let i = c.loop-item.item-index in
    let y = c.item-item.result in
    kept-more (counts_of c.plus-all.result) (counts_of c.loop-item.all) (counts_of c.item_counts.result) (items_counts sizes first (map seen_item (take i items))) c.plus-all.ensures c.loop-item.invariant (e.item_counts sizes (seen_item y)) c.item_counts.ensures
    ∙ ap kept (sym (items-more sizes first items i y c.loop-item-test.true c.item-item.is))
