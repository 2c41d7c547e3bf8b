use Rattle.std.proofs.Common.{rules}
use Rattle.cell_eval.proofs.Selecting.{placed-near}
use Rattle.cell_eval.proofs.selects.placed.Goals as goal

pub returns-clause-value : goal.returns-clause-value
returns-clause-value c = λ z h.
    let p = placed-near c.args.base.width c.args.base.value c.args.low z c.args.part.width c.args.part.value c.args.base.narrow c.args.part.narrow h in
    search (rules, p, c.place_in.ensures.value)
