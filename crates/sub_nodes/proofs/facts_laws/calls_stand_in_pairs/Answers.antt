use Rattle.sub_nodes.proofs.Pairing.{table_paired, table_pair}
use Rattle.sub_nodes.proofs.facts_laws.calls_stand_in_pairs.Goals as goal

pub returns-clause-all : goal.returns-clause-all
returns-clause-all c = λ d. table_paired d

pub returns-clause-each : goal.returns-clause-each
returns-clause-each c = λ d n m g h. (let p = table_pair d n m g h in (p.next, (p.task, p.to, p.trap)))
