use Rattle.std.proofs.Common.{ap, ◌∙◌}
use Rattle.elab_kinds.specs.Sized.{told, round_at}
use Rattle.elab_kinds.proofs.sizes.kept_size_at.Goals as goal

pub returns : goal.returns
returns c = c.told.ensures ∙ ap (λ z. told c.args.sizes.now.index z c.args.name.now) (c.round_at.ensures ∙ ap (λ z. round_at z c.args.depth) c.as_slice.ensures.value)
