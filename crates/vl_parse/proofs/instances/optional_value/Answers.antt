use Rattle.vl_parse.proofs.Lists.{kept_here}
use Rattle.vl_parse.proofs.instances.optional_value.Goals as goal

pub returns-clause-no_longer : goal.returns-clause-no_longer
returns-clause-no_longer c = kept_here _ _ (c.found.ensures.shorter _ _ c.expression.ensures.shorter)
