use Rattle.std.proofs.Common.{◌∙◌, ◌-◌, length, arith}
use Rattle.elab_kinds.proofs.Sizing.{round-is, no-round}
use Rattle.elab_kinds.proofs.sizes.last_round.Goals as goal

pub returns-then-rounds-eq0 : goal.returns-then-rounds-eq0
returns-then-rounds-eq0 c = no-round c.args.rounds.now (length c.args.rounds.now) c.if-rounds-eq0.true

pub returns : goal.returns
returns c =
    c.as_slice.ensures.value
    ∙ round-is c.args.rounds.now (length c.args.rounds.now) (length c.args.rounds.now - 1) c.index-rounds-rounds.result (omega (arith, c.if-rounds-eq0.false)) (omega (arith, c.if-rounds-eq0.false)) (omega arith) c.index-rounds-rounds.is
