use Rattle.vl_parse.proofs.functions.port_grow.Goals as goal

pub returns-clause-shorter : goal.returns-clause-shorter
returns-clause-shorter c = c.in_ok-kind.ensures.shorter _ (c.pushed-grown.ensures.shorter _ c.identifier.ensures.shorter)
