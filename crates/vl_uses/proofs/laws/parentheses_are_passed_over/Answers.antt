use Rattle.vl_uses.proofs.Parentheses.{parentheses-inside, parentheses-others}
use Rattle.vl_uses.proofs.laws.parentheses_are_passed_over.Goals as goal

pub returns : goal.returns
returns c = record { inside = parentheses-inside; others = parentheses-others }
