use Rattle.std.proofs.Common.{◌∙◌, arith}
use Rattle.elab_kinds.proofs.Sizing.{round-is, no-round}
use Rattle.elab_kinds.proofs.sizes.round_at.Goals as goal

pub returns-then-rounds-eq0 : goal.returns-then-rounds-eq0
returns-then-rounds-eq0 c = no-round c.args.rounds.now c.args.depth c.if-rounds-eq0.true

pub returns : goal.returns
returns c =
    c.as_slice.ensures.value
    ∙ round-is c.args.rounds.now c.args.depth c.min-place.result c.index-rounds-place.result (omega (arith, c.if-depth-eq0.false)) (omega (arith, c.if-rounds-eq0.false)) c.min-place.ensures c.index-rounds-place.is
