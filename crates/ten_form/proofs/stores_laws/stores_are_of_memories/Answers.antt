use Rattle.ten_form.proofs.Keeping.{stores-memories, first-memories}
use Rattle.ten_form.proofs.stores_laws.stores_are_of_memories.Goals as goal

pub returns-clause-all : goal.returns-clause-all
returns-clause-all c = λ d r s u. stores-memories d s u r

pub returns-clause-first : goal.returns-clause-first
returns-clause-first c = λ d r k s u. first-memories d s u r k
