use Rattle.std.proofs.Common.{arith}
use Rattle.vl_parse.proofs.Lists.{sooner}
use Rattle.vl_parse.proofs.declarations.range.Goals as goal

pub returns-clause-shorter : goal.returns-clause-shorter
returns-clause-shorter c = sooner _ _ _ (omega (arith, c.in_ok-left.ensures.shorter, c.in_ok-left-2.ensures.shorter, c.in_ok-left-3.ensures.shorter _ c.expression-2.ensures.shorter)) c.before_mark-2.ensures.shorter
