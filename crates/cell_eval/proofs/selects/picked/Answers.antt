use Rattle.std.proofs.Common.{rules}
use Rattle.cell_eval.proofs.Selecting.{picked-near}
use Rattle.cell_eval.proofs.selects.picked.Goals as goal

pub returns-clause-value : goal.returns-clause-value
returns-clause-value c = λ z h.
    let p = picked-near c.args.base.width c.args.base.value c.args.low z c.args.width c.args.base.narrow c.requires.narrow h in
    search (rules, p, c.pick.ensures.value)
