use Rattle.std.proofs.Common.{◌≡◌, ◌+◌, ◌≤◌, drop}
use Rattle.vl_lex.specs.vl_tree.specs.Tokens.{place_after, start}
use Rattle.vl_front.proofs.end.end_of.Given as goal

-- what is left leads to the end
abbrev pub invariant-loop-byte : goal.invariant-loop-byte
invariant-loop-byte l = record {
  rest : place_after l.place (drop l.byte-index l.text) ≡ place_after start l.text;
  line : l.place.line ≤ 1 + l.byte-index;
  column : l.place.column ≤ 1 + l.byte-index;
}
