use Rattle.std.proofs.Common.{arith}
use Rattle.vl_parse.proofs.Lists.{kept, another}
use Rattle.vl_parse.proofs.items.optional_item.Goals as goal

pub returns-in-Name-clause-no_longer : goal.returns-in-Name-clause-no_longer
returns-in-Name-clause-no_longer c = kept _ _ _ (grind arith) (c.found.ensures.shorter _ _ c.instance_item.ensures.shorter)

pub returns-in-Name-clause-shorter : goal.returns-in-Name-clause-shorter
returns-in-Name-clause-shorter c = another _ _ _ (grind arith) (c.found.ensures.shorter _ _ c.instance_item.ensures.shorter)
