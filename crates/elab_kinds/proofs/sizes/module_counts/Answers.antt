use Rattle.std.proofs.Common.{ap, ◌∙◌, map}
use Rattle.elab_plain.specs.SeenItems.{seen_item, seen_module}
use Rattle.elab_kinds.specs.Sized.{kept, told, items_counts}
use Rattle.elab_kinds.proofs.Keeping.{own-kept}
use Rattle.elab_kinds.proofs.sizes.module_counts.Goals as goal

pub returns : goal.returns
returns c = λ own.
    let sizes = told c.args.index.now c.args.round.now in
    c.items_counts.ensures
    ∙ (ap (λ z. kept (items_counts sizes (record { signals = c.args.own; functions = 0 }) (map seen_item z))) c.as_slice.ensures.value
    ∙ (ap (λ n. kept (items_counts sizes (record { signals = n; functions = 0 }) (map seen_item c.args.m.now.items.items))) own
    ∙ own-kept sizes (seen_module c.args.m.now)))
