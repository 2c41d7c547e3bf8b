use Rattle.sub_nodes.proofs.Leading.{late_leads, updates_late, early_firsts}
use Rattle.sub_nodes.proofs.facts_laws.other_nodes_lead_to_others.Goals as goal

pub returns-clause-leads : goal.returns-clause-leads
returns-clause-leads c = λ d n x l h. late_leads d n x l h

pub returns-clause-updates : goal.returns-clause-updates
returns-clause-updates c = λ d n to h. updates_late d n to h

pub returns-clause-rise : goal.returns-clause-rise
returns-clause-rise c = λ d. (early_firsts d).rise

pub returns-clause-fall : goal.returns-clause-fall
returns-clause-fall c = λ d f. (early_firsts d).fall f
