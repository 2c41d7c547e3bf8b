use Rattle.vl_tree.specs.Binding.{operand}
use Rattle.vl_tree.specs.declared.tree.Binary.{out-Binary}
use Rattle.vl_tree.proofs.Bindings.{first-bound_from, links-bound_from}
use Rattle.vl_tree.proofs.laws.binding_keeps_the_order.Goals as goal

pub returns-clause-first : goal.returns-clause-first
returns-clause-first c e = first-bound_from (out-Binary e).links (operand (out-Binary e).first)

pub returns-clause-links : goal.returns-clause-links
returns-clause-links c e = links-bound_from (out-Binary e).links (operand (out-Binary e).first)
