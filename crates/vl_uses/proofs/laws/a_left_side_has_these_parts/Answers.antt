use Rattle.vl_uses.proofs.StatementParts as s
use Rattle.vl_uses.proofs.laws.a_left_side_has_these_parts.Goals as goal

pub returns : goal.returns
returns c = record { name = s.nodes-Name; concatenation = s.nodes-Concatenation }
