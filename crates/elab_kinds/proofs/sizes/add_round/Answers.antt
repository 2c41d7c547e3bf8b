use Rattle.std.proofs.Common.{ap, ◌∙◌, map, length}
use Rattle.elab_plain.specs.SeenItems.{seen_module}
use Rattle.elab_kinds.specs.Sized.{round_at, next_counts}
use Rattle.elab_kinds.proofs.sizes.add_round.Goals as goal

pub returns : goal.returns
returns c = (
  c.in_ok-next.next,
  c.in_ok-push.ensures.items,
  c.in_ok-next.ensures ∙ ap (next_counts c.args.index.now (map seen_module c.args.modules.now)) (c.last_round.ensures ∙ ap (λ z. round_at z (length z)) c.as_slice.ensures.value),
)
