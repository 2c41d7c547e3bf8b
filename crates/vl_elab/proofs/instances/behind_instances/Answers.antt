use Rattle.std.proofs.Common.{ap, sym, ◌∙◌}
use Rattle.elab_plain.specs.vl_flat.specs.Environments as e
use Rattle.elab_plain.specs.vl_flat.specs.Items as x
use Rattle.elab_plain.specs.SeenItems.{seen_instances}
use Rattle.elab_kinds.specs.Sized.{counts_of}
use Rattle.elab_kinds.proofs.Keeping.{plus-none}
use Rattle.vl_elab.specs.Libraries.{modules_of, sizes_in, instance_in}
use Rattle.vl_elab.proofs.instances.behind_instances.Goals as goal

pub returns : goal.returns
returns c =
    let ms = modules_of c.args.library.now in
    let next = counts_of c.args.next in
    let size = e.item_counts (sizes_in c.args.library.now c.args.depth) (x.Instantiates (seen_instances c.args.instances.now)) in
    c.in_ok-sum.ensures
    ∙ (ap (e.plus next) (c.in_ok-size.ensures.modules (sizes_in c.args.library.now) c.requires.library.sizes c.requires.depth)
    ∙ ap (λ z. e.plus z size) (sym (plus-none next)))
