use Rattle.elab_plain.specs.vl_flat.specs.Environments as e
use Rattle.elab_plain.specs.SeenItems.{seen_module}
use Rattle.elab_kinds.proofs.sizes.module_size.Goals as goal

pub returns : goal.returns
returns c = λ told sized deep. c.in_ok-exactly.ensures (e.module_counts (told c.args.depth) (seen_module c.args.m.now)) (c.in_ok-all.ensures told sized deep)
