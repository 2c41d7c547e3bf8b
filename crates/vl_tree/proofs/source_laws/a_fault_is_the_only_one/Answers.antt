use Rattle.vl_tree.proofs.OneOutcome.{syntax_once, statements_once, tokens_once, one_limit, syntax_or_statements, syntax_or_tokens, no_syntax, no_limit}
use Rattle.vl_tree.proofs.source_laws.a_fault_is_the_only_one.Goals as goal

pub returns-clause-syntax : goal.returns-clause-syntax
returns-clause-syntax c ts i j f g = syntax_once ts i j f g

pub returns-clause-statements : goal.returns-clause-statements
returns-clause-statements c ts i j f g = statements_once ts i j f g

pub returns-clause-tokens : goal.returns-clause-tokens
returns-clause-tokens c ts i j f g = tokens_once ts i j f g

pub returns-clause-one_limit : goal.returns-clause-one_limit
returns-clause-one_limit c ts i j f g = one_limit ts i j f g

pub returns-clause-syntax_or_statements : goal.returns-clause-syntax_or_statements
returns-clause-syntax_or_statements c ts i j f g = syntax_or_statements ts i j f g

pub returns-clause-syntax_or_tokens : goal.returns-clause-syntax_or_tokens
returns-clause-syntax_or_tokens c ts i j f g = syntax_or_tokens ts i j f g

pub returns-clause-no_syntax_in_a_source : goal.returns-clause-no_syntax_in_a_source
returns-clause-no_syntax_in_a_source c ts s i d f = no_syntax ts s i d f

pub returns-clause-no_limit_in_a_source : goal.returns-clause-no_limit_in_a_source
returns-clause-no_limit_in_a_source c ts s i d f = no_limit ts s i d f
