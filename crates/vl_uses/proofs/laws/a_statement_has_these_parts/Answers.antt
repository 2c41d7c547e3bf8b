use Rattle.vl_uses.proofs.StatementParts as s
use Rattle.vl_uses.proofs.laws.a_statement_has_these_parts.Goals as goal

pub returns : goal.returns
returns c = record {
  null = s.nodes-Null;
  block = s.nodes-Block;
  when = s.nodes-If;
  case = s.nodes-Case;
  repeated = s.nodes-For;
  counted = s.nodes-Repeat;
  assignment = s.nodes-Assign;
  call = s.nodes-System;
  labels = s.nodes-Labels;
  default = s.nodes-Default;
}
