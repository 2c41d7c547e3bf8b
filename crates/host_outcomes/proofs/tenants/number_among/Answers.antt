use Rattle.std.proofs.Common.{◌∙◌, map, arith}
use Rattle.host_report.specs.Ends.{is_refused}
use Rattle.host_outcomes.proofs.Making.{rank-few, rank-is}
use Rattle.host_outcomes.proofs.tenants.number_among.Goals as goal

pub overflow_cast-result : goal.overflow_cast-result
overflow_cast-result c =
    let e = c.count_before.ensures ∙ rank-is c.args.refusals.now c.args.n in
    let l = rank-few (map is_refused c.args.refusals.now) c.args.n in
    omega (arith, e, l)

pub returns : goal.returns
returns c = c.count_before.ensures ∙ rank-is c.args.refusals.now c.args.n
