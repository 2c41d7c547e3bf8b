use Rattle.std.proofs.Common.{◌∙◌}
use Rattle.elab_plain.specs.vl_flat.specs.Environments as e
use Rattle.elab_plain.specs.SeenItems.{seen_module}
use Rattle.elab_kinds.specs.Sized.{counts_of}
use Rattle.elab_kinds.proofs.Sizing.{are-vast}
use Rattle.elab_kinds.proofs.sizes.is_vast.Goals as goal

pub returns : goal.returns
returns c = λ told sized deep. c.are_many.ensures ∙ are-vast (counts_of c.in_ok-all.all) (e.module_counts (told c.args.depth) (seen_module c.args.m.now)) (c.in_ok-all.ensures told sized deep)
