use Rattle.vl_uses.proofs.ExpressionParts as e
use Rattle.vl_uses.proofs.laws.selects_and_arguments_have_these_parts.Goals as goal

pub returns : goal.returns
returns c = record { name = e.name-parts; select = e.select-parts; call = e.system-parts }
