use Rattle.std.proofs.Common.{◌∙◌}
use Rattle.elab_kinds.proofs.sizes.size_at.Goals as goal

pub returns : goal.returns
returns c = λ told sized deep. c.in_ok-exactly.ensures (told c.args.depth c.args.name.now) (c.kept_size_at.ensures ∙ (λ i. sized c.args.depth deep i c.args.name.now))
