use Rattle.std.proofs.Common.{arith}
use Rattle.vl_parse.proofs.ports.net_head.Goals as goal

pub returns-clause-shorter : goal.returns-clause-shorter
returns-clause-shorter c = omega (arith, c.past_keyword-wire.ensures.no_longer, c.past_keyword-signed.ensures.no_longer, c.in_ok-range.ensures.no_longer, c.in_ok-range-2.ensures.shorter _ (c.pushed-first.ensures.shorter _ c.identifier.ensures.shorter))
