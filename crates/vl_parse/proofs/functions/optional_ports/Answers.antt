use Rattle.std.proofs.Common.{arith}
use Rattle.vl_parse.proofs.Lists.{kept}
use Rattle.vl_parse.proofs.functions.optional_ports.Goals as goal

pub returns-clause-no_longer : goal.returns-clause-no_longer
returns-clause-no_longer c = kept _ _ _ (grind arith) (c.found.ensures.shorter _ _ c.before_mark.ensures.shorter)
