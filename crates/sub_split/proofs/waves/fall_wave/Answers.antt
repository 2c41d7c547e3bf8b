use Rattle.std.proofs.Common.{refl}
use Rattle.std.proofs.lemmas.Result.{IfOk-weaker}
use Rattle.sub_split.proofs.Waving.{fall-passed, fall-taken}
use Rattle.sub_split.proofs.waves.fall_wave.Goals as goal

pub returns-then-falls : goal.returns-then-falls
returns-then-falls c = IfOk-weaker c.wave.result _ _ (λ p k. fall-taken c.args.from c.args.processes.now c.args.falls p c.requires c.if-falls.true k) c.wave.ensures

pub returns-else-falls : goal.returns-else-falls
returns-else-falls c = fall-passed c.args.from c.args.processes.now c.args.falls c.new.result _ c.requires c.if-falls.false c.new.ensures.from c.new.ensures.nodes refl
