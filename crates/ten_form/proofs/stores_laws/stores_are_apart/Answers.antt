use Rattle.ten_form.specs.Stores.{words_down}
use Rattle.ten_form.proofs.Apart.{apart-from, within-from, many-from, beside-from}
use Rattle.ten_form.proofs.stores_laws.stores_are_apart.Goals as goal

pub returns-clause-disjoint : goal.returns-clause-disjoint
returns-clause-disjoint c = λ r nodes. apart-from r (words_down nodes)

pub returns-clause-within : goal.returns-clause-within
returns-clause-within c = λ r nodes. within-from r (words_down nodes)

pub returns-clause-many : goal.returns-clause-many
returns-clause-many c = λ r nodes. many-from r (words_down nodes)

pub returns-clause-beside : goal.returns-clause-beside
returns-clause-beside c = λ k r nodes l. beside-from k r (words_down nodes) l
