use Rattle.std.proofs.Common.{◌<◌, ◌^◌, rules}
use Rattle.vl_base.proofs.Parts.{nothing-above}
use Rattle.cell_eval.proofs.placing.cleared_below.Goals as goal

pub returns-else-place-lt128 : goal.returns-else-place-lt128
returns-else-place-lt128 c =
    let fits : c.args.value < 2 ^ 128 = search rules in
    nothing-above c.args.value c.args.place fits c.if-place-lt128.false
