use Rattle.sub_nodes.proofs.Leading.{all_within, firsts_within}
use Rattle.sub_nodes.proofs.facts_laws.nodes_lead_to_nodes.Goals as goal

pub returns-clause-next : goal.returns-clause-next
returns-clause-next c = λ d n x h. all_within d n x h

pub returns-clause-zero : goal.returns-clause-zero
returns-clause-zero c = λ d. (firsts_within d).zero

pub returns-clause-rise : goal.returns-clause-rise
returns-clause-rise c = λ d. (firsts_within d).rise

pub returns-clause-fall : goal.returns-clause-fall
returns-clause-fall c = λ d. (firsts_within d).fall
