use Rattle.vl_tree.specs.Binding.{operand}
use Rattle.vl_tree.specs.declared.tree.Binary.{out-Binary}
use Rattle.vl_tree.proofs.Bindings.{bound_from_bound}
use Rattle.vl_tree.proofs.laws.binding_follows_the_table.Goals as goal

pub returns : goal.returns
returns c e = bound_from_bound (out-Binary e).links (operand (out-Binary e).first) tt
