use Rattle.std.proofs.Common.{◌≡◌, true}
use Rattle.ten_form.proofs.Cutting.{below-ends, below-fewer, all-fewer}
use Rattle.ten_form.proofs.stores_laws.stores_of_fewer_nodes.Goals as goal

pub returns-clause-below : goal.returns-clause-below
returns-clause-below c = λ r n m nodes l. (let e = below-ends r nodes n m l in (e.more, e.is))

pub returns-clause-fewer : goal.returns-clause-fewer
returns-clause-fewer c = λ p r n m nodes f l. below-fewer (λ x. p x ≡ true) r nodes n m f l

pub returns-clause-all : goal.returns-clause-all
returns-clause-all c = λ p r n nodes f. all-fewer (λ x. p x ≡ true) r nodes n f
