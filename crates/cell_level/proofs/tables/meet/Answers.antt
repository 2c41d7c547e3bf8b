use Rattle.std.proofs.Common.{◌<◌, ◌^◌, arith}
use Rattle.cell_level.proofs.Edges.{meets, meets_not}
use Rattle.cell_level.proofs.tables.meet.Goals as goal

pub returns-clause-yes : goal.returns-clause-yes
returns-clause-yes c =
    let l : c.args.first < 2 ^ 128 = omega (arith, c.ranges.first) in
    meets c.args.first c.args.second l

pub returns-clause-no : goal.returns-clause-no
returns-clause-no c = meets_not c.args.first c.args.second
