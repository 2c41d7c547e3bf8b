use Rattle.vl_uses.proofs.ExpressionParts as e
use Rattle.vl_uses.proofs.laws.a_primary_has_these_parts.Goals as goal

pub returns : goal.returns
returns c = record {
  number = e.nodes-Number;
  string = e.nodes-Str;
  name = e.nodes-Name;
  parenthesized = e.nodes-Parenthesized;
  concatenation = e.nodes-Concatenation;
  replication = e.nodes-Replication;
  call = e.nodes-Call;
  system = e.nodes-System;
}
