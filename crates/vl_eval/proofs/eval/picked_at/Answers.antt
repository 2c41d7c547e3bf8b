use Rattle.std.proofs.Common.{rules}
use Rattle.vl_design.specs.Value.{lowest_bit}
use Rattle.vl_eval.specs.Wholes.{whole_of}
use Rattle.vl_eval.proofs.eval.picked_at.Goals as goal

pub returns-clause-value : goal.returns-clause-value
returns-clause-value c =
    let p = c.picked.ensures.value (lowest_bit c.args.from (whole_of c.args.index)) in
    search (rules, p, c.lowest_bit.ensures)
