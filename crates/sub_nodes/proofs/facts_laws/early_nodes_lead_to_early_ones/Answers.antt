use Rattle.sub_nodes.proofs.Leading.{early_leads, early_ends, early_firsts}
use Rattle.sub_nodes.proofs.facts_laws.early_nodes_lead_to_early_ones.Goals as goal

pub returns-clause-leads : goal.returns-clause-leads
returns-clause-leads c = λ d n x e h. early_leads d n x e h

pub returns-clause-ends : goal.returns-clause-ends
returns-clause-ends c = λ d n to g e h. early_ends d n to g e h

pub returns-clause-first : goal.returns-clause-first
returns-clause-first c = λ d. (early_firsts d).zero
