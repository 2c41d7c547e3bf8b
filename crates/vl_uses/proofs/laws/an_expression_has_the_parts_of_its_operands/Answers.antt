use Rattle.vl_uses.proofs.ExpressionParts.{expression-parts}
use Rattle.vl_uses.proofs.laws.an_expression_has_the_parts_of_its_operands.Goals as goal

pub returns : goal.returns
returns c = expression-parts
