use Rattle.std.proofs.Common.{◌+◌, ◌≤◌, length}
use Rattle.vl_tree.specs.Tokens.{start, Passes}
use Rattle.vl_tree.specs.Faults.{most_tokens}
use Rattle.vl_lex.proofs.lex.tokens_of.Given as goal

abbrev pub invariant-each : goal.invariant-each
invariant-each l = record {
  short : length l.text ≤ 1048576;
  passes : Passes start l.text l.tokens.items l.place l.rest;
  few : length l.tokens.items ≤ most_tokens;
  line : l.place.line + length l.rest ≤ 1048577;
  column : l.place.column + length l.rest ≤ 1048577;
}

abbrev pub decreases-each : goal.decreases-each
decreases-each l = length l.rest
