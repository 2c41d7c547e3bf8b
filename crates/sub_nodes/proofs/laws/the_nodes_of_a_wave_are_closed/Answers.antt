use Rattle.std.proofs.Common.{refl}
use Rattle.sub_nodes.proofs.Closing.{wave_closed, table_apart}
use Rattle.sub_nodes.proofs.laws.the_nodes_of_a_wave_are_closed.Goals as goal

pub returns-clause-statements : goal.returns-clause-statements
returns-clause-statements c = λ nodes from update xs g h. wave_closed nodes update xs g from _ refl h

pub returns-clause-zero : goal.returns-clause-zero
returns-clause-zero c = λ d. (table_apart d).zero

pub returns-clause-rise : goal.returns-clause-rise
returns-clause-rise c = λ d. (table_apart d).rise

pub returns-clause-fall : goal.returns-clause-fall
returns-clause-fall c = λ d f. (table_apart d).fall f
