use Rattle.ten_form.specs.Stores.{node_words}
use Rattle.ten_form.proofs.Apart.{many-from, memories-from}
use Rattle.ten_form.proofs.Cutting.{node-cut, stores-cut}
use Rattle.ten_form.proofs.stores_laws.the_stores_of_a_node.Goals as goal

pub returns-clause-node : goal.returns-clause-node
returns-clause-node c = λ r n nodes x h. node-cut r nodes n x h

pub returns-clause-cut : goal.returns-clause-cut
returns-clause-cut c = λ r n nodes. stores-cut r nodes n

pub returns-clause-memories : goal.returns-clause-memories
returns-clause-memories c = λ r ms. memories-from r ms

pub returns-clause-many : goal.returns-clause-many
returns-clause-many c = λ r x. many-from r (node_words x)
