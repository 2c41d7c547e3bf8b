use Rattle.std.proofs.Common.{◌≡◌, ◌+◌, ◌≤◌, drop}
use Rattle.vl_tree.specs.Tokens.{place_after as place_after_lem}
use Rattle.vl_lex.proofs.lex.place_after.Given as goal

abbrev pub invariant-loop-byte : goal.invariant-loop-byte
invariant-loop-byte l = record {
  rest : place_after_lem l.place (drop l.byte-index l.bytes) ≡ place_after_lem l.fn.place l.bytes;
  line : l.place.line ≤ l.fn.place.line + l.byte-index;
  column : l.place.column ≤ l.fn.place.column + l.byte-index;
}
