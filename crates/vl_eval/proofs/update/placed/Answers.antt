use Rattle.std.proofs.Common.{rules}
use Rattle.vl_eval.proofs.Placing.{placed-near}
use Rattle.vl_eval.proofs.update.placed.Goals as goal

pub returns-clause-value : goal.returns-clause-value
returns-clause-value c = λ z h.
    let p = placed-near c.args.old.width c.args.old.value c.args.low z c.args.part.width c.args.part.value c.args.old.narrow c.args.part.narrow h in
    search (rules, p, c.place_in.ensures.value)
