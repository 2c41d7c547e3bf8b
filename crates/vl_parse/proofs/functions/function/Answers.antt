use Rattle.vl_tree.specs.Parsing.{function}
use Rattle.vl_parse.proofs.functions.function.Goals as goal

pub returns-clause-reads : goal.returns-clause-reads
unfolding function
returns-clause-reads c = rw (c.past_keyword-automatic.ensures.reads, c.in_ok-kind.ensures.reads, c.in_ok-name.ensures.reads, c.in_ok-ports.ensures.reads, c.in_ok-declarations.ensures.reads, c.in_ok-statement.ensures.reads)
    (rw (c.into_inner.ensures, c.in_ok-boxed.ensures) at c.before_keyword.ensures.reads)
