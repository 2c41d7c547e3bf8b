use Rattle.elab_plain.specs.vl_flat.specs.Environments.{module_counts}
use Rattle.elab_kinds.specs.Sized.{kept, told}
use Rattle.elab_kinds.proofs.Sizing.{own-at, next-more}
use Rattle.elab_kinds.proofs.sizes.next_round.Goals as goal

pub loop-i-preserved : goal.loop-i-preserved
loop-i-preserved c =
    next-more (λ m. kept (module_counts (told c.args.index.now c.args.round.now) m)) c.args.modules.now c.loop-i.i c.index-modules-i.result c.loop-i.all.items _ c.module_counts.result c.loop-i-test.true c.index-modules-i.is
    c.loop-i.invariant c.in_ok-push.ensures.items
    (c.module_counts.ensures (own-at c.args.owns.now c.args.modules.now c.loop-i.i c.index-modules-i.result c.loop-i-test.true c.index-modules-i.is c.requires))
