use Rattle.vl_parse.proofs.functions.next_port.Goals as goal

pub returns-then-begins_with_keyword-clause-reads : goal.returns-then-begins_with_keyword-clause-reads
returns-then-begins_with_keyword-clause-reads c = rw (← c.if-begins_with_keyword.ensures) (c.closed.ensures.reads _ c.port_head.ensures.reads)

pub returns-then-begins_with_keyword-clause-shorter : goal.returns-then-begins_with_keyword-clause-shorter
returns-then-begins_with_keyword-clause-shorter c = c.closed.ensures.shorter _ c.port_head.ensures.shorter

pub returns-clause-reads : goal.returns-clause-reads
returns-clause-reads c = rw (← c.if-begins_with_keyword.ensures) (c.beside.ensures.reads _ c.port_grow.ensures.reads)

pub returns-clause-shorter : goal.returns-clause-shorter
returns-clause-shorter c = c.beside.ensures.shorter _ c.port_grow.ensures.shorter
