use Rattle.std.proofs.Common.{rules}
use Rattle.vl_eval.proofs.Contexts.{picked-near}
use Rattle.vl_eval.proofs.eval.picked.Goals as goal

pub returns-clause-value : goal.returns-clause-value
returns-clause-value c = λ z h.
    let p = picked-near c.args.bits.width c.args.bits.value c.args.width c.args.low z c.args.bits.narrow c.requires.narrow h in
    search (rules, p, c.pick.ensures.value)
