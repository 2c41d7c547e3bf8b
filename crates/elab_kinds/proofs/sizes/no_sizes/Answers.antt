use Rattle.std.proofs.Common.{ap, ◌∙◌}
use Rattle.elab_kinds.specs.Sized.{told, round_at}
use Rattle.elab_kinds.proofs.Sizing.{untold}
use Rattle.elab_kinds.proofs.sizes.no_sizes.Goals as goal

pub returns : goal.returns
returns c = λ n below. ap (λ z. told c.in_ok-index.index (round_at z n)) c.new-rounds.ensures.items ∙ untold c.in_ok-index.index n
