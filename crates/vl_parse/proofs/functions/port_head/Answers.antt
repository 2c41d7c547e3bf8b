use Rattle.std.proofs.Common.{arith}
use Rattle.vl_parse.proofs.functions.port_head.Goals as goal

pub returns-clause-shorter : goal.returns-clause-shorter
returns-clause-shorter c = omega (arith, c.in_ok-place.ensures.shorter, c.in_ok-kind.ensures.no_longer, c.in_ok-kind-2.ensures.shorter _ (c.pushed-first.ensures.shorter _ c.identifier.ensures.shorter))
