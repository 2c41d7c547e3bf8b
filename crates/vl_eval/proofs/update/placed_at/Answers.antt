use Rattle.std.proofs.Common.{rules}
use Rattle.vl_eval.specs.Updates.{low_of}
use Rattle.vl_eval.proofs.update.placed_at.Goals as goal

pub returns-clause-value : goal.returns-clause-value
returns-clause-value c =
    let p = c.placed.ensures.value (low_of c.args.low) in
    search (rules, p, c.lowest_bit.ensures)
